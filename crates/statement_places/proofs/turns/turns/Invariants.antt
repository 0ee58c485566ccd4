use Rattle.std.proofs.Common.{◌≡◌, ◌++◌, drop}
use Rattle.statement_places.specs.StepWays.{turns_in}
use Rattle.statement_places.proofs.turns.turns.Given as goal

abbrev pub invariant-loop-first : goal.invariant-loop-first
invariant-loop-first l =
    turns_in l.once l.statements l.positions l.from l.firsts ≡ l.turns.items ++ turns_in l.once l.statements l.positions l.at (drop l.first-index l.firsts)
