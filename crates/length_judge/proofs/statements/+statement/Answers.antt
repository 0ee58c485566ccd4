use Rattle.length_judge.proofs.FaultForms.{plain_as}
use Rattle.length_judge.proofs.statements.+statement.Goals as goal

pub returns-in_default : goal.returns-in_default
returns-in_default t c = plain_as c.plain_faults.result c.args.names.now c.args.body.now c.in_default.not-Assign c.in_default.not-IfOne c.plain_faults.ensures
