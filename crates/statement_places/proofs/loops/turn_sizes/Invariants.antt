use Rattle.std.proofs.Common.{◌≡◌, ◌+◌, drop}
use Rattle.statement_places.specs.StatementSizes.{turn_sizes_in}
use Rattle.statement_places.proofs.loops.turn_sizes.Given as goal

abbrev pub invariant-loop-first : goal.invariant-loop-first
invariant-loop-first l = l.sum + turn_sizes_in l.statements (drop l.first-index l.firsts) ≡ turn_sizes_in l.statements l.firsts
