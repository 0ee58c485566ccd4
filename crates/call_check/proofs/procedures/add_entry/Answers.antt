use Rattle.call_check.proofs.ProcedureLaws.{no_entry}
use Rattle.call_check.proofs.procedures.add_entry.Goals as goal

pub returns-in_default : goal.returns-in_default
returns-in_default c = no_entry c.args.names.now c.args.kind.now c.args.body.now c.args.shapes.now.items c.in_default.not-Entry
