use Rattle.std.proofs.Common.{◌≡◌, ◌++◌, drop, map}
use Rattle.statement_parts.specs.TreesSeen.{trees}
use Rattle.reference_judge.specs.ArgumentsSeen.{all_references, sight_by}
use Rattle.reference_judge.specs.ReferencesSeen.{located, at}
use Rattle.reference_judge.proofs.statements.add_each.Given as goal

abbrev pub invariant-loop-e : goal.invariant-loop-e
invariant-loop-e l =
    located l.initial.references.items ++ at l.statement (all_references (map (sight_by l.names) (trees l.es)))
    ≡ located l.references.items ++ at l.statement (all_references (map (sight_by l.names) (trees (drop l.e-index l.es))))
