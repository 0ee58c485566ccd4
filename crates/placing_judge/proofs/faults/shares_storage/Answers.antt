use Rattle.placing_judge.proofs.FrontLaws.{says_nothing}
use Rattle.placing_judge.proofs.faults.shares_storage.Goals as goal

pub returns-in_default : goal.returns-in_default
returns-in_default c = says_nothing c.args.body.now c.in_default.not-Common c.in_default.not-Equivalence
