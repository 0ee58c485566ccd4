use Rattle.std.proofs.Common.{◌≡◌, ◌+◌, ◌*◌, map, take, drop}
use Rattle.direct_lines.specs.References.{any, has_reference, known_by}
use Rattle.direct_lines.proofs.Weights.{weight}
use Rattle.direct_lines.proofs.references.+references.Given as goal

abbrev pub decreases-has_reference : goal.decreases-has_reference
decreases-has_reference l = weight (take l.place l.unit.now.statements) + (4 * goal.size-has_reference l + 1)

abbrev pub decreases-applied_has_reference : goal.decreases-applied_has_reference
decreases-applied_has_reference l = weight (take l.place l.unit.now.statements) + (4 * goal.size-applied_has_reference l + 4)

abbrev pub decreases-any_has_reference : goal.decreases-any_has_reference
decreases-any_has_reference l = weight (take l.place l.unit.now.statements) + (4 * goal.size-any_has_reference l + 3)

abbrev pub decreases-end_has_reference : goal.decreases-end_has_reference
decreases-end_has_reference l = weight (take l.place l.unit.now.statements) + (4 * goal.size-end_has_reference l + 3)

abbrev pub decreases-stands_for_reference : goal.decreases-stands_for_reference
decreases-stands_for_reference l = weight (take l.place l.unit.now.statements)

abbrev pub invariant-any_has_reference-loop-e : goal.invariant-any_has_reference-loop-e
invariant-any_has_reference-loop-e l =
    any (map (has_reference (known_by l.unit l.table (take l.place l.unit.statements) l.dummies)) (drop l.e-index l.es))
    ≡ any (map (has_reference (known_by l.unit l.table (take l.place l.unit.statements) l.dummies)) l.es)
