-- The labels that each form of a statement may branch to.
use Rattle.std.proofs.Common.{◌≡◌, ℕ, List, [], ◌∷◌, ◌++◌, refl, sym, ap, ◌∙◌}
use Rattle.std.proofs.lemmas.List.{append-nil}
use Rattle.f_tree.specs.Values.{Bytes}
use Rattle.f_tree.specs.declared.expressions.Expr as tree
use Rattle.f_tree.specs.declared.expressions.Expr.{Expr, Apply', Part', Minus', Plus', Not', Paren', Binary', Bind', more_of-Expr}
use Rattle.f_tree.specs.declared.statements.AuxiliaryKind.{AuxiliaryKind}
use Rattle.f_tree.specs.declared.statements.Body as whole
use Rattle.f_tree.specs.declared.statements.Body.{Body, IfOne', more_of-Body, end_of-Body}
use Rattle.f_tree.specs.declared.statements.Body.TheVariants as body
use Rattle.f_tree.specs.declared.statements.Control.{Control}
use Rattle.f_tree.specs.declared.statements.Direction.{Direction}
use Rattle.f_tree.specs.declared.statements.ListItem.{ListItem}
use Rattle.f_tree.specs.Folds.{folds_opened, fold_expr}
use Rattle.declaration_rows.specs.BlockRows.{layer_exits, exits_of, label_of_word, labels_of_controls, layer_branches, branches_of}

-- ARGUMENTS
pub exit-AltReturn : (label : ℕ) → fold_expr layer_exits (tree.AltReturn label) ≡ label ∷ []
unfolding folds_opened layer_exits
exit-AltReturn label = refl

pub exit-other : (e : Expr) → ((label : ℕ) → e ≡ tree.AltReturn label → ⊥) → fold_expr layer_exits e ≡ []
unfolding folds_opened layer_exits
exit-other (tree.AltReturn label) other = absurd (other label refl)
exit-other (Apply' x s row) other = refl
exit-other (Part' s (more_of-Expr e r) from to) other = refl
exit-other (Minus' s (more_of-Expr e r)) other = refl
exit-other (Plus' s (more_of-Expr e r)) other = refl
exit-other (Not' s (more_of-Expr e r)) other = refl
exit-other (Paren' s (more_of-Expr e r)) other = refl
exit-other (Binary' op s (more_of-Expr a r) t (more_of-Expr b q)) other = refl
exit-other (Bind' s row t (more_of-Expr e q)) other = refl
exit-other _ other = refl

pub exits_step : (e : Expr) (es : List Expr) → exits_of (e ∷ es) ≡ fold_expr layer_exits e ++ exits_of es
unfolding exits_of
exits_step e es = refl

pub exits_none : exits_of [] ≡ []
unfolding exits_of
exits_none = refl

-- STATEMENTS
pub branch-Goto : (label : ℕ) → branches_of (body.Goto label) ≡ label ∷ []
unfolding folds_opened branches_of layer_branches
branch-Goto label = refl

pub branch-GotoList : (labels : List ℕ) (e : Expr) → branches_of (body.GotoList labels e) ≡ labels
unfolding folds_opened branches_of layer_branches
branch-GotoList labels e = refl

pub branch-GotoName : (x : Bytes) (labels : List ℕ) → branches_of (body.GotoName x labels) ≡ labels
unfolding folds_opened branches_of layer_branches
branch-GotoName x labels = refl

pub branch-IfSign : (e : Expr) (below at above : ℕ) → branches_of (body.IfSign e below at above) ≡ below ∷ at ∷ above ∷ []
unfolding folds_opened branches_of layer_branches
branch-IfSign e below at above = refl

pub branch-IfOne : (e : Expr) (b : Body) → branches_of (body.IfOne e b) ≡ branches_of b
unfolding folds_opened branches_of layer_branches
branch-IfOne e b = refl

pub branch-Call : (x : Bytes) (es : List Expr) → branches_of (body.Call x es) ≡ exits_of es
unfolding folds_opened branches_of layer_branches
branch-Call x es = refl

pub branch-Transfer : (way : Direction) (controls : List Control) (items : List ListItem) → branches_of (body.Transfer way controls items) ≡ labels_of_controls controls
unfolding folds_opened branches_of layer_branches
branch-Transfer way controls items = refl

pub branch-Auxiliary : (which : AuxiliaryKind) (controls : List Control) → branches_of (body.Auxiliary which controls) ≡ labels_of_controls controls
unfolding folds_opened branches_of layer_branches
branch-Auxiliary which controls = refl

pub branch-other : (b : Body) → ((label : ℕ) → b ≡ body.Goto label → ⊥) → ((labels : List ℕ) (e : Expr) → b ≡ body.GotoList labels e → ⊥)
    → ((x : Bytes) (labels : List ℕ) → b ≡ body.GotoName x labels → ⊥) → ((e : Expr) (below at above : ℕ) → b ≡ body.IfSign e below at above → ⊥)
    → ((e : Expr) (inner : Body) → b ≡ body.IfOne e inner → ⊥) → ((x : Bytes) (es : List Expr) → b ≡ body.Call x es → ⊥)
    → ((way : Direction) (controls : List Control) (items : List ListItem) → b ≡ body.Transfer way controls items → ⊥)
    → ((which : AuxiliaryKind) (controls : List Control) → b ≡ body.Auxiliary which controls → ⊥) → branches_of b ≡ []
unfolding branches_of layer_branches folds_opened
branch-other (whole.Goto label) h0 h1 h2 h3 h4 h5 h6 h7 = absurd (h0 label refl)
branch-other (whole.GotoList labels e) h0 h1 h2 h3 h4 h5 h6 h7 = absurd (h1 labels e refl)
branch-other (whole.GotoName x labels) h0 h1 h2 h3 h4 h5 h6 h7 = absurd (h2 x labels refl)
branch-other (whole.IfSign e below at above) h0 h1 h2 h3 h4 h5 h6 h7 = absurd (h3 e below at above refl)
branch-other (IfOne' e s (more_of-Body b end_of-Body)) h0 h1 h2 h3 h4 h5 h6 h7 = absurd (h4 e b refl)
branch-other (whole.Call x es) h0 h1 h2 h3 h4 h5 h6 h7 = absurd (h5 x es refl)
branch-other (whole.Transfer way controls items) h0 h1 h2 h3 h4 h5 h6 h7 = absurd (h6 way controls items refl)
branch-other (whole.Auxiliary which controls) h0 h1 h2 h3 h4 h5 h6 h7 = absurd (h7 which controls refl)
branch-other _ h0 h1 h2 h3 h4 h5 h6 h7 = refl

pub ruleset branch_forms = (branch-Goto, branch-GotoList, branch-GotoName, branch-IfSign, branch-IfOne, branch-Call, branch-Transfer, branch-Auxiliary)

-- nothing is added
pub nothing_added : (xs ys : List ℕ) → ys ≡ [] → xs ≡ xs ++ ys
nothing_added xs ys is = sym (append-nil xs) ∙ ap (λ zs. xs ++ zs) (sym is)

-- control words
pub controls_step : (c : Control) (cs : List Control) → labels_of_controls (c ∷ cs) ≡ label_of_word c.word c.value ++ labels_of_controls cs
unfolding labels_of_controls
controls_step c cs = refl

pub controls_none : labels_of_controls [] ≡ []
unfolding labels_of_controls
controls_none = refl
