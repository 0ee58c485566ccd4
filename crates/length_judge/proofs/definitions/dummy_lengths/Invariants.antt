use Rattle.std.proofs.Common.{◌≡◌, List, ℕ, Some, None, if◌then◌else◌, drop}
use Rattle.f_tree.specs.Uses.{is_among}
use Rattle.declaration_rows.specs.NameRows.{own_attributes}
use Rattle.name_table.specs.Named.{texts, value_of}
use Rattle.length_judge.specs.KnownNames.{length_of}
use Rattle.length_judge.proofs.definitions.dummy_lengths.Given as goal

abbrev pub invariant-loop-dummy : goal.invariant-loop-dummy
invariant-loop-dummy l = (x : List ℕ) → (if is_among x (texts l.dummies) then Some (length_of (own_attributes l.unit x)) else None)
    ≡ (if is_among x (texts (drop l.dummy-index l.dummies)) then Some (length_of (own_attributes l.unit x)) else value_of l.table x)
