use Rattle.std.proofs.Common.{◌≡◌, drop}
use Rattle.flat_linker.specs.CaseNumbers.{numbered_from}
use Rattle.flat_linker.proofs.cases.grow_by_one.Given as goal

abbrev pub invariant-loop-case : goal.invariant-loop-case
invariant-loop-case l = numbered_from l.first l.cases ≡ numbered_from l.wanted (drop l.case-index l.cases)
