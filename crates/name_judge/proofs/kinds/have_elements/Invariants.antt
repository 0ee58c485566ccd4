use Rattle.std.proofs.Common.{◌≡◌, drop}
use Rattle.name_judge.specs.FactRows.{have_elements}
use Rattle.name_judge.proofs.kinds.have_elements.Given as goal

abbrev pub invariant-loop-bound : goal.invariant-loop-bound
invariant-loop-bound l = have_elements l.bounds ≡ have_elements (drop l.bound-index l.bounds)
