use Rattle.std.proofs.Common.{◌≡◌, drop, map}
use Rattle.statement_parts.specs.TreesSeen.{trees}
use Rattle.length_judge.specs.LengthsSeen.{lengths_in, no_parts, onward}
use Rattle.length_judge.proofs.statements.expressions_parts.Given as goal

abbrev pub invariant-loop-e : goal.invariant-loop-e
invariant-loop-e l = onward no_parts (map (lengths_in l.names) (trees l.es)) ≡ onward l.parts (map (lengths_in l.names) (trees (drop l.e-index l.es)))
