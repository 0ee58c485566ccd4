use Rattle.std.proofs.Common.{[], take, ap, ◌∙◌}
use Rattle.std.proofs.lemmas.Result.{IfOk-weaker}
use Rattle.f_tree.specs.Attributes.{from_all}
use Rattle.f_tree.specs.Lines.{blocks_from, common_in}
use Rattle.unit_equations.specs.BlocksTold.{naming_by}
use Rattle.unit_equations.proofs.BlockForms.{blocks_told}
use Rattle.unit_equations.proofs.blocks.common_blocks.Goals as goal

pub returns : goal.returns
returns c =
    IfOk-weaker c.blocks_among.result _ _
    (λ blocks is.
    is ∙ ap (λ ss. blocks_from (naming_by c.args.facts.now) [] (from_all common_in (take c.args.front ss))) c.as_slice.ensures
    ∙ blocks_told c.args.unit.now c.args.facts.now c.requires.facts [] (from_all common_in (take c.args.front c.args.unit.now.statements)))
    c.blocks_among.ensures
