use Rattle.std.proofs.Common.{◌≡◌, OnOk, map, sym, ap, subst, ◌∙◌}
use Rattle.f_tree.specs.Lines.{blocks_from, common_in}
use Rattle.unit_equations.specs.BlocksTold.{naming_by, block_in}
use Rattle.unit_equations.proofs.BlockForms.{common_itself, common_other, groups_none}
use Rattle.unit_equations.proofs.blocks.add_body.Goals as goal

pub returns-in-Common : goal.returns-in-Common
returns-in-Common c =
    subst
    (λ gs. OnOk c.add_groups.result (map block_in c.add_groups.new.blocks.items ≡ blocks_from (naming_by c.args.facts.now) (map block_in c.args.blocks.now.items) gs))
    (c.as_slice.ensures ∙ sym (ap common_in c.in-Common.is ∙ common_itself c.in-Common.groups)) c.add_groups.ensures

pub returns-in_default : goal.returns-in_default
returns-in_default c =
    let names = naming_by c.args.facts.now in
    let bs = map block_in c.args.blocks.now.items in
    sym (ap (blocks_from names bs) (common_other c.args.body.now c.in_default.not-Common) ∙ groups_none names bs)
