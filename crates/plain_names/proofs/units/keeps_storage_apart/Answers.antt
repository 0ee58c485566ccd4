use Rattle.std.proofs.Common.{sym, ◌∙◌}
use Rattle.plain_names.proofs.Statements.{none_known, apart-Common, apart-Equivalence, apart-Init, apart-other, apart-by, apart-same}
use Rattle.plain_names.proofs.units.keeps_storage_apart.Goals as goal

pub returns-in-Common : goal.returns-in-Common
returns-in-Common c =
    none_known c.is_empty.result c.in-Common.groups c.is_empty.ensures ∙ sym (apart-by c.args.statement.now _ c.in-Common.is ∙ apart-Common c.in-Common.groups)

pub returns-in-Equivalence : goal.returns-in-Equivalence
returns-in-Equivalence c =
    none_known c.is_empty-in-Equivalence.result c.in-Equivalence.groups c.is_empty-in-Equivalence.ensures
    ∙ sym (apart-by c.args.statement.now _ c.in-Equivalence.is ∙ apart-Equivalence c.in-Equivalence.groups)

pub returns-in-Init : goal.returns-in-Init
returns-in-Init c =
    none_known c.is_empty-in-Init.result c.in-Init.groups c.is_empty-in-Init.ensures ∙ sym (apart-by c.args.statement.now _ c.in-Init.is ∙ apart-Init c.in-Init.groups)

pub returns-in_default : goal.returns-in_default
returns-in_default c =
    sym (apart-same c.args.statement.now ∙ apart-other c.args.statement.now.body c.in_default.not-Common c.in_default.not-Equivalence c.in_default.not-Init)
