use Rattle.std.proofs.Common.{ap, ◌∙◌}
use Rattle.f_tree.specs.Uses.{is_among}
use Rattle.unit_names.specs.Undeclared.{heads}
use Rattle.unit_names.proofs.RowLemmas.{declared_is, or_there, or_other}
use Rattle.unit_names.proofs.stands.is_declared.Goals as goal

pub returns-then-has : goal.returns-then-has
returns-then-has c =
    c.if-has.true
    ∙ or_there c.has.result (heads c.args.unit.now c.args.name.now) c.if-has.true
    ∙ declared_is c.args.unit.now c.args.name.now c.has.result (c.has.ensures ∙ ap (is_among c.args.name.now) c.requires.declared.typed.names)

pub returns-else-has : goal.returns-else-has
returns-else-has c =
    or_other c.has.result (heads c.args.unit.now c.args.name.now) c.heads.result c.if-has.false c.heads.ensures
    ∙ declared_is c.args.unit.now c.args.name.now c.has.result (c.has.ensures ∙ ap (is_among c.args.name.now) c.requires.declared.typed.names)
