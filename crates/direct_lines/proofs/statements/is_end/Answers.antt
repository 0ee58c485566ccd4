use Rattle.std.proofs.Common.{sym}
use Rattle.direct_lines.proofs.StatementForms.{end-is, end-not}
use Rattle.direct_lines.proofs.statements.is_end.Goals as goal

pub returns-in-End : goal.returns-in-End
returns-in-End c = sym (end-is c.args.statement.now c.in-End.is)

pub returns-in_default : goal.returns-in_default
returns-in_default c = sym (end-not c.args.statement.now c.in_default.not-End)
