use Rattle.std.proofs.Common.{◌≡◌, ◌++◌, map, drop}
use Rattle.unit_equations.specs.BlocksTold.{equation_in}
use Rattle.placing_judge.specs.Walked.{ties_in}
use Rattle.placing_judge.proofs.ties.add_ties.Given as goal

abbrev pub invariant-loop-statement : goal.invariant-loop-statement
invariant-loop-statement l =
    map equation_in l.initial.equations.items ++ ties_in l.ties ≡ map equation_in l.equations.items ++ ties_in (drop l.statement-index l.ties)
