use Rattle.std.proofs.Common.{◌≡◌, drop, map}
use Rattle.length_judge.specs.LengthsSeen.{lengths_in, no_parts, onward}
use Rattle.length_judge.proofs.expressions.+lengths.Given as goal

abbrev pub invariant-list_parts-loop-e : goal.invariant-list_parts-loop-e
invariant-list_parts-loop-e l = onward no_parts (map (lengths_in l.names) l.es) ≡ onward l.parts (map (lengths_in l.names) (drop l.e-index l.es))
