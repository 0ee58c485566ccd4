use Rattle.std.proofs.Common.{drop}
use Rattle.first_names.specs.FirstNames.{first_of}
use Rattle.flat_linker.specs.Parts.{jumps}
use Rattle.flat_linker.proofs.Completing.{Completes}
use Rattle.flat_linker.proofs.cases.put_case_jumps.Given as goal

abbrev pub invariant-loop-case : goal.invariant-loop-case
invariant-loop-case l = Completes (jumps l.cases) (jumps (drop l.case-index l.cases)) (first_of l.labels) l.initial.out l.out
