-- The labels that the ASSIGN statements of a unit name, by its statements. ANSI X3.9-1978, sections 10.3 and 11.5.
use Rattle.std.specs.Prelude.{ℕ, List, [], ◌∷◌}
use Rattle.f_tree.specs.declared.statements.Body.{Body}
use Rattle.f_tree.specs.declared.statements.Body.TheOpen as body
use Rattle.f_tree.specs.Folds.{fold_body}

-- of one layer of a statement, given those of the statement of a logical IF
unfoldable pub layer_assigned : body.Body-F (List ℕ) → List ℕ
layer_assigned (body.AssignLabel label x) = label ∷ []
layer_assigned (body.IfOne e labels) = labels
layer_assigned _ = []

unfoldable pub assigned_of : Body → List ℕ
assigned_of b = fold_body layer_assigned b

unfoldable pub assigned_labels_opened : Unit {0}
unfolding layer_assigned assigned_of
assigned_labels_opened = tt
