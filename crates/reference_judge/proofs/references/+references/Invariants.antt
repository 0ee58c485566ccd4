use Rattle.std.proofs.Common.{◌≡◌, ◌++◌, drop, map}
use Rattle.reference_judge.specs.ArgumentsSeen.{all_references, sight_by}
use Rattle.reference_judge.specs.ReferencesSeen.{located, at}
use Rattle.reference_judge.proofs.references.+references.Given as goal

abbrev pub invariant-add_list-loop-e : goal.invariant-add_list-loop-e
invariant-add_list-loop-e l =
    located l.initial.references.items ++ at l.statement (all_references (map (sight_by l.names) l.es))
    ≡ located l.references.items ++ at l.statement (all_references (map (sight_by l.names) (drop l.e-index l.es)))
