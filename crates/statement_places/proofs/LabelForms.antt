-- The labels that each form of a statement names.
use Rattle.std.proofs.Common.{◌≡◌, ℕ, List, [], ◌∷◌, ◌++◌, refl, sym, ap, ◌∙◌}
use Rattle.std.proofs.lemmas.List.{append-nil}
use Rattle.f_tree.specs.Values.{Bytes}
use Rattle.f_tree.specs.declared.expressions.Expr.{Expr}
use Rattle.f_tree.specs.declared.statements.AuxiliaryKind.{AuxiliaryKind}
use Rattle.f_tree.specs.declared.statements.Body as whole
use Rattle.f_tree.specs.declared.statements.Body.{Body, IfOne', more_of-Body, end_of-Body}
use Rattle.f_tree.specs.declared.statements.Body.TheVariants as body
use Rattle.f_tree.specs.declared.statements.Control.{Control}
use Rattle.f_tree.specs.declared.statements.Direction.{Direction}
use Rattle.f_tree.specs.declared.statements.ListItem.{ListItem}
use Rattle.f_tree.specs.Folds.{folds_opened}
use Rattle.name_facts.specs.declared.table.NameFacts.{NameFacts}
use Rattle.statement_lowering.specs.LoweredTransfers.{labels_passed}
use Rattle.statement_places.specs.NamedLabels.{control_labels, layer_labels, labels_of}

pub labels-AssignLabel : (table : NameFacts) (label : ℕ) (x : Bytes) → labels_of table (body.AssignLabel label x) ≡ label ∷ []
unfolding folds_opened labels_of layer_labels
labels-AssignLabel table label x = refl

pub labels-Goto : (table : NameFacts) (label : ℕ) → labels_of table (body.Goto label) ≡ label ∷ []
unfolding folds_opened labels_of layer_labels
labels-Goto table label = refl

pub labels-GotoList : (table : NameFacts) (labels : List ℕ) (e : Expr) → labels_of table (body.GotoList labels e) ≡ labels
unfolding folds_opened labels_of layer_labels
labels-GotoList table labels e = refl

pub labels-GotoName : (table : NameFacts) (x : Bytes) (labels : List ℕ) → labels_of table (body.GotoName x labels) ≡ labels
unfolding folds_opened labels_of layer_labels
labels-GotoName table x labels = refl

pub labels-IfSign : (table : NameFacts) (e : Expr) (below at above : ℕ) → labels_of table (body.IfSign e below at above) ≡ below ∷ at ∷ above ∷ []
unfolding folds_opened labels_of layer_labels
labels-IfSign table e below at above = refl

pub labels-IfOne : (table : NameFacts) (e : Expr) (b : Body) → labels_of table (body.IfOne e b) ≡ labels_of table b
unfolding folds_opened labels_of layer_labels
labels-IfOne table e b = refl

pub labels-Call : (table : NameFacts) (x : Bytes) (es : List Expr) → labels_of table (body.Call x es) ≡ labels_passed table es
unfolding folds_opened labels_of layer_labels
labels-Call table x es = refl

pub labels-Transfer : (table : NameFacts) (way : Direction) (controls : List Control) (items : List ListItem) → labels_of table (body.Transfer way controls items) ≡ control_labels controls
unfolding folds_opened labels_of layer_labels
labels-Transfer table way controls items = refl

pub labels-Auxiliary : (table : NameFacts) (which : AuxiliaryKind) (controls : List Control) → labels_of table (body.Auxiliary which controls) ≡ control_labels controls
unfolding folds_opened labels_of layer_labels
labels-Auxiliary table which controls = refl

pub labels-other : (table : NameFacts) (b : Body) → ((label : ℕ) (x : Bytes) → b ≡ body.AssignLabel label x → ⊥) → ((label : ℕ) → b ≡ body.Goto label → ⊥)
    → ((labels : List ℕ) (e : Expr) → b ≡ body.GotoList labels e → ⊥) → ((x : Bytes) (labels : List ℕ) → b ≡ body.GotoName x labels → ⊥)
    → ((e : Expr) (below at above : ℕ) → b ≡ body.IfSign e below at above → ⊥) → ((e : Expr) (inner : Body) → b ≡ body.IfOne e inner → ⊥)
    → ((x : Bytes) (es : List Expr) → b ≡ body.Call x es → ⊥) → ((way : Direction) (controls : List Control) (items : List ListItem) → b ≡ body.Transfer way controls items → ⊥)
    → ((which : AuxiliaryKind) (controls : List Control) → b ≡ body.Auxiliary which controls → ⊥) → labels_of table b ≡ []
unfolding labels_of layer_labels folds_opened
labels-other table (whole.AssignLabel label x) h0 h1 h2 h3 h4 h5 h6 h7 h8 = absurd (h0 label x refl)
labels-other table (whole.Goto label) h0 h1 h2 h3 h4 h5 h6 h7 h8 = absurd (h1 label refl)
labels-other table (whole.GotoList labels e) h0 h1 h2 h3 h4 h5 h6 h7 h8 = absurd (h2 labels e refl)
labels-other table (whole.GotoName x labels) h0 h1 h2 h3 h4 h5 h6 h7 h8 = absurd (h3 x labels refl)
labels-other table (whole.IfSign e below at above) h0 h1 h2 h3 h4 h5 h6 h7 h8 = absurd (h4 e below at above refl)
labels-other table (IfOne' e s (more_of-Body b end_of-Body)) h0 h1 h2 h3 h4 h5 h6 h7 h8 = absurd (h5 e b refl)
labels-other table (whole.Call x es) h0 h1 h2 h3 h4 h5 h6 h7 h8 = absurd (h6 x es refl)
labels-other table (whole.Transfer way controls items) h0 h1 h2 h3 h4 h5 h6 h7 h8 = absurd (h7 way controls items refl)
labels-other table (whole.Auxiliary which controls) h0 h1 h2 h3 h4 h5 h6 h7 h8 = absurd (h8 which controls refl)
labels-other table _ h0 h1 h2 h3 h4 h5 h6 h7 h8 = refl

pub ruleset label_forms = (labels-AssignLabel, labels-Goto, labels-GotoList, labels-GotoName, labels-IfSign, labels-IfOne, labels-Call, labels-Transfer, labels-Auxiliary)

-- nothing is added
pub nothing_added : (xs ys : List ℕ) → ys ≡ [] → xs ≡ xs ++ ys
nothing_added xs ys is = sym (append-nil xs) ∙ ap (λ zs. xs ++ zs) (sym is)
