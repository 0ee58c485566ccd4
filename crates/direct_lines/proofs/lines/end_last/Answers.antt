use Rattle.std.proofs.Common.{sym, ap, ◌∙◌, option_copied}
use Rattle.direct_lines.proofs.StatementForms.{none-last, one-last}
use Rattle.direct_lines.proofs.lines.end_last.Goals as goal

pub returns-in-Some : goal.returns-in-Some
returns-in-Some c = c.is_end.ensures ∙ sym (one-last c.args.statements.now c.in-Some.statement.now (sym c.last.ensures.value ∙ ap option_copied c.in-Some.is))

pub returns-in-None : goal.returns-in-None
returns-in-None c = sym (none-last c.args.statements.now (sym c.last.ensures.value ∙ ap option_copied c.in-None.is))
