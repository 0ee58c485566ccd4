use Rattle.std.proofs.Common.{not, ap, ◌∙◌}
use Rattle.name_classes.proofs.SignLemmas.{listed_is}
use Rattle.unit_names.proofs.RowLemmas.{not_typed, typed_declared}
use Rattle.unit_names.proofs.stands.stands.Goals as goal

pub returns-then-not-has_type : goal.returns-then-not-has_type
returns-then-not-has_type c =
    ap not c.if-not-has_type.true
    ∙ not_typed c.args.unit.now c.args.name.now c.has-is_referenced.result c.has_type.result c.class_of.result
    (c.has-is_referenced.ensures ∙ listed_is c.args.unit.now c.args.signs.now c.args.name.now c.requires) c.class_of.ensures c.has_type.ensures c.if-not-has_type.true

pub returns-else-not-has_type : goal.returns-else-not-has_type
returns-else-not-has_type c =
    typed_declared c.args.unit.now c.args.name.now c.has-is_referenced.result c.has_type.result c.is_declared.result c.class_of.result
    (c.has-is_referenced.ensures ∙ listed_is c.args.unit.now c.args.signs.now c.args.name.now c.requires) c.class_of.ensures c.has_type.ensures c.if-not-has_type.false c.is_declared.ensures
