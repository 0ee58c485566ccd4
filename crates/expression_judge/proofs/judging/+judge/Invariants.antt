use Rattle.std.proofs.Common.{◌≡◌, None, map, drop}
use Rattle.expression_judge.specs.FoundSteps.{judged_by, plain_onward, passing_onward, each_onward, paired_onward}
use Rattle.expression_judge.proofs.judging.+judge.Given as goal

abbrev pub invariant-arguments-loop-e : goal.invariant-arguments-loop-e
invariant-arguments-loop-e l = plain_onward l.fault (map (judged_by l.names) (drop l.e-index l.es)) ≡ plain_onward None (map (judged_by l.names) l.es)

abbrev pub invariant-passed_arguments-loop-e : goal.invariant-passed_arguments-loop-e
invariant-passed_arguments-loop-e l = passing_onward l.fault (map (judged_by l.names) (drop l.e-index l.es)) ≡ passing_onward None (map (judged_by l.names) l.es)

abbrev pub invariant-each_argument-loop-e : goal.invariant-each_argument-loop-e
invariant-each_argument-loop-e l = each_onward l.basic l.fault (map (judged_by l.names) (drop l.e-index l.es)) ≡ each_onward l.basic None (map (judged_by l.names) l.es)

abbrev pub invariant-paired_arguments-loop-e : goal.invariant-paired_arguments-loop-e
invariant-paired_arguments-loop-e l = paired_onward l.fault l.later (map (judged_by l.names) (drop l.e-index l.es)) ≡ paired_onward None l.basics (map (judged_by l.names) l.es)
