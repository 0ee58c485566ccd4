-- The labels that a statement may branch to, as the code has them. ANSI X3.9-1978, sections 11.1 to 11.5, 12.7 and 15.9.3.5.
use Rattle.std.specs.Prelude.{◌≡◌, ℕ, Bool, true, false, List, [], ◌∷◌, ◌++◌, map, Option, Some, None}
use Rattle.f_tree.specs.declared.statements.Body.{Body}
use Rattle.f_tree.specs.declared.statements.Body.TheOpen as body
use Rattle.f_tree.specs.declared.statements.Control.{Control}
use Rattle.f_tree.specs.declared.statements.ControlValue.{ControlValue}
use Rattle.f_tree.specs.declared.statements.ControlValue.TheVariants as value
use Rattle.f_tree.specs.declared.statements.ControlWord.{ControlWord}
use Rattle.f_tree.specs.declared.statements.ControlWord.TheVariants as word
use Rattle.f_tree.specs.Folds.{fold_body, layer_of}
use Rattle.f_tree.specs.Attributes.{first_of_two}
use Rattle.f_tree.specs.Facts.{ProgramUnit}
use Rattle.f_tree.specs.Places.{place_of_label}
use Rattle.name_table.specs.declared.LabelTable.{LabelTable}
use Rattle.name_table.specs.Named.{labelled}
use Rattle.loop_entries.specs.PassedLabels.{Told, joined, labels_of}

-- the label behind END, or behind ERR
unfoldable pub label_for : Bool → ControlWord → ControlValue → Option ℕ
label_for true word.OnEnd (value.Label label) = Some label
label_for false word.OnError (value.Label label) = Some label
label_for _ _ _ = None

-- where one is written more than once, the first counts
unfoldable pub label_among : Bool → List Control → Option ℕ
label_among at_end [] = None
label_among at_end (c ∷ cs) = first_of_two (label_for at_end c.word c.value) (label_among at_end cs)

unfoldable pub option_labels : Option ℕ → List ℕ
option_labels None = []
option_labels (Some label) = label ∷ []

unfoldable pub control_labels : List Control → List ℕ
control_labels cs = option_labels (label_among false cs) ++ option_labels (label_among true cs)

-- of one layer of a statement, given those of the statement of a logical IF
unfoldable pub layer_branches : Told → body.Body-F (List ℕ) → List ℕ
layer_branches told (body.Goto label) = label ∷ []
layer_branches told (body.GotoList labels e) = labels
layer_branches told (body.IfSign e below at above) = below ∷ at ∷ above ∷ []
layer_branches told (body.IfOne e labels) = labels
layer_branches told (body.Call x es) = joined (map (labels_of told) es)
layer_branches told (body.Transfer way controls items) = control_labels controls
layer_branches told (body.Auxiliary which controls) = control_labels controls
layer_branches told _ = []

unfoldable pub branches_of : Told → Body → List ℕ
branches_of told b = fold_body (layer_branches told) b

-- ENTRY (15.7)
unfoldable pub is_entry : Body → Bool
is_entry b = elim (layer_of b) [ body.Entry x dummies ↦ true | _ ↦ false ]

-- a table has the places of the labels of a unit
pub record ArePlaces (p : ProgramUnit) (places : LabelTable ℕ) : Type 0 where
  pub at : (l : ℕ) → labelled places l ≡ place_of_label p l
