-- The labels that a statement names so that control may go there, by what the table tells of the names that a CALL passes. ANSI X3.9-1978,
-- sections 10.3, 11.1 to 11.5, 12.7 and 15.6.
use Rattle.std.specs.Prelude.{◌≡◌, ℕ, nat_eq, Bool, true, false, List, [], ◌∷◌, ◌++◌, Option, Some, None, is_some}
use Rattle.std.specs.List.{list_any}
use Rattle.f_tree.specs.declared.statements.Body.{Body}
use Rattle.f_tree.specs.declared.statements.Body.TheOpen as body
use Rattle.f_tree.specs.declared.statements.Control.{Control}
use Rattle.f_tree.specs.declared.statements.ControlValue.{ControlValue}
use Rattle.f_tree.specs.declared.statements.ControlValue.TheVariants as value
use Rattle.f_tree.specs.declared.statements.ControlWord.{ControlWord}
use Rattle.f_tree.specs.declared.statements.ControlWord.TheVariants as word
use Rattle.f_tree.specs.Folds.{fold_body}
use Rattle.f_tree.specs.Attributes.{first_of_two}
use Rattle.lowering.specs.Units.{label_in}
use Rattle.name_facts.specs.declared.table.NameFacts.{NameFacts}
use Rattle.name_table.specs.declared.LabelTable.{LabelTable}
use Rattle.name_table.specs.Named.{labelled}
use Rattle.statement_lowering.specs.LoweredTransfers.{labels_passed}

-- the label behind END, or behind ERR
unfoldable pub label_for : Bool → ControlWord → ControlValue → Option ℕ
label_for true word.OnEnd (value.Label label) = Some label
label_for false word.OnError (value.Label label) = Some label
label_for _ _ _ = None

-- where one is written more than once, the first counts
unfoldable pub label_among : Bool → List Control → Option ℕ
label_among at_end [] = None
label_among at_end (c ∷ cs) = first_of_two (label_for at_end c.word c.value) (label_among at_end cs)

unfoldable pub control_labels : List Control → List ℕ
control_labels cs = label_in (label_among false cs) ++ label_in (label_among true cs)

-- of one layer of a statement, given those of the statement of a logical IF
unfoldable pub layer_labels : NameFacts → body.Body-F (List ℕ) → List ℕ
layer_labels table (body.AssignLabel label x) = label ∷ []
layer_labels table (body.Goto label) = label ∷ []
layer_labels table (body.GotoList labels e) = labels
layer_labels table (body.GotoName x labels) = labels
layer_labels table (body.IfSign e below at above) = below ∷ at ∷ above ∷ []
layer_labels table (body.IfOne e labels) = labels
layer_labels table (body.Call x es) = labels_passed table es
layer_labels table (body.Transfer way controls items) = control_labels controls
layer_labels table (body.Auxiliary which controls) = control_labels controls
layer_labels table _ = []

unfoldable pub labels_of : NameFacts → Body → List ℕ
labels_of table b = fold_body (layer_labels table) b

-- a table has these labels, and no others
pub record IsLabelSet (labels : List ℕ) (set : LabelTable (Unit {0})) : Type 0 where
  pub has : (l : ℕ) → is_some (labelled set l) ≡ list_any (nat_eq l) labels

unfoldable pub named_labels_opened : Unit {0}
unfolding label_for label_among control_labels layer_labels labels_of
named_labels_opened = tt
