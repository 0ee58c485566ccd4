use Rattle.std.proofs.Common.{◌≡◌, List, ℕ, Some, bytes_eq, drop, if◌then◌else◌}
use Rattle.std.specs.HashMap.{get_by}
use Rattle.declaration_rows.specs.NameRows.{own_attributes}
use Rattle.f_tree.specs.Uses.{is_among}
use Rattle.name_table.specs.Named.{texts}
use Rattle.definition_judge.specs.KnownFunctions.{bound_basic}
use Rattle.definition_judge.proofs.dummies.bind_dummies.Given as goal

abbrev pub invariant-loop-dummy : goal.invariant-loop-dummy
invariant-loop-dummy l =
    (x : List ℕ) → bound_basic (own_attributes l.unit) (texts l.dummies) x
    ≡ (if is_among x (texts (drop l.dummy-index l.dummies)) then Some (own_attributes l.unit x).basic else get_by (λ k. bytes_eq x k.now) l.table)
