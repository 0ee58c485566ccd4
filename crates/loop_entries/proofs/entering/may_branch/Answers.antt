use Rattle.loop_entries.proofs.BranchLaws.{branch_some, branch_none}
use Rattle.loop_entries.proofs.entering.may_branch.Goals as goal

pub returns-in-Some : goal.returns-in-Some
returns-in-Some c = λ p are at.
    branch_some p c.args.ranges.now c.args.places.now c.args.from c.args.label c.get.result c.in-Some.to c.enters_range.result are at c.get.ensures c.in-Some.is c.enters_range.ensures

pub returns-in-None : goal.returns-in-None
returns-in-None c = λ p are at. branch_none p c.args.places.now c.args.from c.args.label c.get.result at c.get.ensures c.in-None.is
