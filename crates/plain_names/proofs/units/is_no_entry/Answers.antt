use Rattle.std.proofs.Common.{sym, ◌∙◌}
use Rattle.plain_names.proofs.Statements.{entry, no-entry, entry-by, entry-same}
use Rattle.plain_names.proofs.units.is_no_entry.Goals as goal

pub returns-in-Entry : goal.returns-in-Entry
returns-in-Entry c = sym (entry-by c.args.statement.now _ c.in-Entry.is ∙ entry c.in-Entry.field-0 c.in-Entry.field-1)

pub returns-in_default : goal.returns-in_default
returns-in_default c = sym (entry-same c.args.statement.now ∙ no-entry c.args.statement.now.body c.in_default.not-Entry)
