use Rattle.std.proofs.Common.{◌≡◌, List, ℕ, Some, bytes_eq, drop, if◌then◌else◌}
use Rattle.std.specs.HashMap.{get_by}
use Rattle.call_shapes.specs.declaration_rows.NameRows.{own_attributes}
use Rattle.f_tree.specs.Uses.{is_among}
use Rattle.name_table.specs.Named.{texts}
use Rattle.reference_judge.specs.KnownBindings.{bound_basic}
use Rattle.call_check.proofs.bindings.bound_dummies.Given as goal

abbrev pub invariant-loop-name : goal.invariant-loop-name
invariant-loop-name l =
    (x : List ℕ) → bound_basic (own_attributes l.unit) (texts l.names) x
    ≡ (if is_among x (texts (drop l.name-index l.names)) then Some (own_attributes l.unit x).basic else get_by (λ k. bytes_eq x k.now) l.dummies)
