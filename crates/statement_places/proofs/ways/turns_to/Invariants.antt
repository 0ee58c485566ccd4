use Rattle.std.proofs.Common.{◌≡◌, ◌+◌, drop}
use Rattle.statement_places.specs.StepWays.{turns_to}
use Rattle.statement_places.proofs.ways.turns_to.Given as goal

abbrev pub invariant-loop-other : goal.invariant-loop-other
invariant-loop-other l = turns_to l.statements l.first l.firsts ≡ l.sum + turns_to l.statements l.first (drop l.other-index l.firsts)
