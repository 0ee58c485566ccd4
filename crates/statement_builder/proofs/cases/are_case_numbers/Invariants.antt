-- The numbers are those of cases, where those from the next one on are.
use Rattle.std.proofs.Common.{◌-◌, length}
use Rattle.statement_builder.proofs.BuiltCases.{AreCounted}
use Rattle.statement_builder.proofs.cases.are_case_numbers.Given as goal

abbrev pub invariant-loop-passed : goal.invariant-loop-passed
invariant-loop-passed l = AreCounted l.cases l.passed

abbrev pub decreases-loop-passed : goal.decreases-loop-passed
decreases-loop-passed l = length l.cases - l.passed
