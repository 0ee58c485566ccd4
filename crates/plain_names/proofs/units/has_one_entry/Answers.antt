use Rattle.std.proofs.Common.{◌&&◌, sym, ap, ◌∙◌}
use Rattle.std.specs.List.{list_all}
use Rattle.plain_names.specs.PlainStatements.{is_no_entry}
use Rattle.plain_names.proofs.Statements.{none_known, one-entry}
use Rattle.plain_names.proofs.units.has_one_entry.Goals as goal

pub returns-then-is_empty : goal.returns-then-is_empty
returns-then-is_empty c =
    c.have_no_entry.ensures ∙ ap (list_all is_no_entry) c.as_slice.ensures
    ∙ ap (λ t. t && list_all is_no_entry c.args.unit.now.statements) (sym c.if-is_empty.true)
    ∙ one-entry c.args.unit.now c.is_empty.result (none_known c.is_empty.result c.args.unit.now.dummies c.is_empty.ensures)

pub returns-else-is_empty : goal.returns-else-is_empty
returns-else-is_empty c =
    c.if-is_empty.false ∙ ap (λ t. t && list_all is_no_entry c.args.unit.now.statements) (sym c.if-is_empty.false)
    ∙ one-entry c.args.unit.now c.is_empty.result (none_known c.is_empty.result c.args.unit.now.dummies c.is_empty.ensures)
