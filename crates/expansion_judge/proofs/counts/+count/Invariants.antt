use Rattle.std.proofs.Common.{◌≡◌, drop, map}
use Rattle.expansion_judge.specs.NodesCounted.{onward, count_by}
use Rattle.expansion_judge.proofs.counts.+count.Given as goal

abbrev pub invariant-count_list-loop-e : goal.invariant-count_list-loop-e
invariant-count_list-loop-e l = onward l.fn.before (map (count_by l.functions) l.es) ≡ onward l.counted (map (count_by l.functions) (drop l.e-index l.es))
