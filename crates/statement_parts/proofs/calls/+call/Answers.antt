use Rattle.std.proofs.Common.{sym}
use Rattle.statement_parts.proofs.CallForms.{call_other}
use Rattle.statement_parts.proofs.calls.+call.Goals as goal

pub returns-in_default : goal.returns-in_default
returns-in_default t c = sym (call_other c.args.body.now c.in_default.not-Call c.in_default.not-IfOne)
