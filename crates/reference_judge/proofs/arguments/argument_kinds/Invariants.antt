use Rattle.std.proofs.Common.{◌≡◌, ◌++◌, drop, map}
use Rattle.reference_judge.specs.ArgumentsSeen.{kind_in, kinds_of, sight_by}
use Rattle.reference_judge.proofs.arguments.argument_kinds.Given as goal

abbrev pub invariant-loop-e : goal.invariant-loop-e
invariant-loop-e l = kinds_of (map (sight_by l.names) l.es) ≡ map kind_in l.kinds.items ++ kinds_of (map (sight_by l.names) (drop l.e-index l.es))
