-- What the judge of labels has of the statements before one.
use Rattle.std.specs.Prelude.{◌≡◌, ℕ, List, [], ◌∷◌, Some, is_some, if◌then◌else◌}
use Rattle.f_tree.specs.declared.refusals.Kind.TheVariants.{LabelMissingOrTwice}
use Rattle.f_tree.specs.declared.refusals.Refusal.{Refusal}
use Rattle.f_tree.specs.declared.statements.Stmt.{Stmt}
use Rattle.declaration_rows.specs.NameRows.{stood}
use Rattle.declaration_rows.specs.UnitRows.{is_taken}
use Rattle.name_table.specs.declared.LabelTable.{LabelTable}
use Rattle.name_table.specs.Named.{labelled}

pub record AreLabels (seen : LabelTable (Unit {0})) (before : List Stmt) : Type 0 where
  pub taken : (l : ℕ) → is_some (labelled seen l) ≡ is_taken before (Some l)

-- the row of one statement behind others
unfoldable pub label_rows : List Stmt → Stmt → List Refusal
label_rows before s = stood s (if is_taken before s.label then LabelMissingOrTwice ∷ [] else [])
