use Rattle.length_judge.proofs.FaultForms.{alone_other}
use Rattle.length_judge.proofs.statements.stands_alone.Goals as goal

pub returns-in_default : goal.returns-in_default
returns-in_default c = alone_other c.args.names.now c.args.body.now c.in_default.not-Call c.in_default.not-Transfer c.in_default.not-Auxiliary
