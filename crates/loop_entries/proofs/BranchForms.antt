-- The labels that each form of a statement may branch to.
use Rattle.std.proofs.Common.{◌≡◌, ℕ, ◌+◌, ◌<◌, ◌≤◌, Bool, true, false, List, [], ◌∷◌, ◌++◌, map, drop, get_or, length, Option, Some, None, is_some, refl, sym, ap, ◌∙◌}
use Rattle.std.proofs.lemmas.List.{append-nil, drop_all}
use Rattle.f_tree.specs.Values.{Bytes}
use Rattle.f_tree.specs.declared.expressions.Expr.{Expr}
use Rattle.f_tree.specs.declared.statements.AuxiliaryKind.{AuxiliaryKind}
use Rattle.f_tree.specs.declared.statements.Body as whole
use Rattle.f_tree.specs.declared.statements.Body.{Body, IfOne', more_of-Body, end_of-Body}
use Rattle.f_tree.specs.declared.statements.Body.TheVariants as body
use Rattle.f_tree.specs.declared.statements.Control.{Control}
use Rattle.f_tree.specs.declared.statements.Direction.{Direction}
use Rattle.f_tree.specs.declared.statements.ListItem.{ListItem}
use Rattle.f_tree.specs.Folds.{folds_opened}
use Rattle.f_tree.specs.Attributes.{first_of_two}
use Rattle.loop_entries.specs.PassedLabels.{Told, joined, labels_of}
use Rattle.loop_entries.specs.Branches.{label_for, label_among, option_labels, control_labels, layer_branches, branches_of}
use Rattle.loop_entries.proofs.Tests.{rest_is}

pub branch-Goto : (told : Told) (label : ℕ) → branches_of told (body.Goto label) ≡ label ∷ []
unfolding folds_opened branches_of layer_branches
branch-Goto told label = refl

pub branch-GotoList : (told : Told) (labels : List ℕ) (e : Expr) → branches_of told (body.GotoList labels e) ≡ labels
unfolding folds_opened branches_of layer_branches
branch-GotoList told labels e = refl

pub branch-IfSign : (told : Told) (e : Expr) (below at above : ℕ) → branches_of told (body.IfSign e below at above) ≡ below ∷ at ∷ above ∷ []
unfolding folds_opened branches_of layer_branches
branch-IfSign told e below at above = refl

pub branch-IfOne : (told : Told) (e : Expr) (b : Body) → branches_of told (body.IfOne e b) ≡ branches_of told b
unfolding folds_opened branches_of layer_branches
branch-IfOne told e b = refl

pub branch-Call : (told : Told) (x : Bytes) (es : List Expr) → branches_of told (body.Call x es) ≡ joined (map (labels_of told) es)
unfolding folds_opened branches_of layer_branches
branch-Call told x es = refl

pub branch-Transfer : (told : Told) (way : Direction) (controls : List Control) (items : List ListItem) → branches_of told (body.Transfer way controls items) ≡ control_labels controls
unfolding folds_opened branches_of layer_branches
branch-Transfer told way controls items = refl

pub branch-Auxiliary : (told : Told) (which : AuxiliaryKind) (controls : List Control) → branches_of told (body.Auxiliary which controls) ≡ control_labels controls
unfolding folds_opened branches_of layer_branches
branch-Auxiliary told which controls = refl

pub branch-other : (told : Told) (b : Body) → ((label : ℕ) → b ≡ body.Goto label → ⊥) → ((labels : List ℕ) (e : Expr) → b ≡ body.GotoList labels e → ⊥)
    → ((e : Expr) (below at above : ℕ) → b ≡ body.IfSign e below at above → ⊥) → ((e : Expr) (inner : Body) → b ≡ body.IfOne e inner → ⊥)
    → ((x : Bytes) (es : List Expr) → b ≡ body.Call x es → ⊥) → ((way : Direction) (controls : List Control) (items : List ListItem) → b ≡ body.Transfer way controls items → ⊥)
    → ((which : AuxiliaryKind) (controls : List Control) → b ≡ body.Auxiliary which controls → ⊥) → branches_of told b ≡ []
unfolding branches_of layer_branches folds_opened
branch-other told (whole.Goto label) h0 h1 h2 h3 h4 h5 h6 = absurd (h0 label refl)
branch-other told (whole.GotoList labels e) h0 h1 h2 h3 h4 h5 h6 = absurd (h1 labels e refl)
branch-other told (whole.IfSign e below at above) h0 h1 h2 h3 h4 h5 h6 = absurd (h2 e below at above refl)
branch-other told (IfOne' e s (more_of-Body b end_of-Body)) h0 h1 h2 h3 h4 h5 h6 = absurd (h3 e b refl)
branch-other told (whole.Call x es) h0 h1 h2 h3 h4 h5 h6 = absurd (h4 x es refl)
branch-other told (whole.Transfer way controls items) h0 h1 h2 h3 h4 h5 h6 = absurd (h5 way controls items refl)
branch-other told (whole.Auxiliary which controls) h0 h1 h2 h3 h4 h5 h6 = absurd (h6 which controls refl)
branch-other told _ h0 h1 h2 h3 h4 h5 h6 = refl

pub ruleset branch_forms = (branch-Goto, branch-GotoList, branch-IfSign, branch-IfOne, branch-Call, branch-Transfer, branch-Auxiliary)

-- nothing is added
pub nothing_added : (xs ys : List ℕ) → ys ≡ [] → xs ≡ xs ++ ys
nothing_added xs ys is = sym (append-nil xs) ∙ ap (λ zs. xs ++ zs) (sym is)

-- CONTROL WORDS
none_first : (o p : Option ℕ) → is_some o ≡ false → first_of_two o p ≡ p
unfolding first_of_two
none_first None p is = refl
none_first (Some a) p is = absurd (cc)

some_first : (o p : Option ℕ) → is_some o ≡ true → o ≡ first_of_two o p
unfolding first_of_two
some_first (Some a) p is = refl
some_first None p is = absurd (cc)

among_step : (at_end : Bool) (c : Control) (cs : List Control) → label_among at_end (c ∷ cs) ≡ first_of_two (label_for at_end c.word c.value) (label_among at_end cs)
unfolding label_among
among_step at_end c cs = refl

among_here : (at_end : Bool) (cs : List Control) (i : ℕ) (c d : Control) (whole : Option ℕ) → i < length cs → c ≡ get_or cs i d → whole ≡ label_among at_end (drop i cs)
    → whole ≡ first_of_two (label_for at_end c.word c.value) (label_among at_end (drop (i + 1) cs))
among_here at_end cs i c d whole h is so_far = so_far ∙ ap (label_among at_end) (rest_is cs i c d h is) ∙ among_step at_end c (drop (i + 1) cs)

pub among_found : (at_end : Bool) (cs : List Control) (i : ℕ) (c d : Control) (label whole : Option ℕ) → i < length cs → c ≡ get_or cs i d → whole ≡ label_among at_end (drop i cs)
    → label ≡ label_for at_end c.word c.value → is_some label ≡ true → label ≡ whole
among_found at_end cs i c d label whole h is so_far now there =
    some_first label (label_among at_end (drop (i + 1) cs)) there ∙ ap (λ o. first_of_two o (label_among at_end (drop (i + 1) cs))) now ∙ sym (among_here at_end cs i c d whole h is so_far)

pub among_more : (at_end : Bool) (cs : List Control) (i : ℕ) (c d : Control) (label whole : Option ℕ) → i < length cs → c ≡ get_or cs i d → whole ≡ label_among at_end (drop i cs)
    → label ≡ label_for at_end c.word c.value → is_some label ≡ false → whole ≡ label_among at_end (drop (i + 1) cs)
among_more at_end cs i c d label whole h is so_far now none =
    among_here at_end cs i c d whole h is so_far ∙ none_first (label_for at_end c.word c.value) (label_among at_end (drop (i + 1) cs)) (ap is_some (sym now) ∙ none)

among_none : (at_end : Bool) → label_among at_end [] ≡ None
unfolding label_among
among_none at_end = refl

pub among_end : (at_end : Bool) (cs : List Control) (i : ℕ) (whole : Option ℕ) → length cs ≤ i → whole ≡ label_among at_end (drop i cs) → None ≡ whole
among_end at_end cs i whole h so_far = sym (so_far ∙ ap (label_among at_end) (drop_all i cs h) ∙ among_none at_end)

pub controls_are : (cs : List Control) (one other : Option ℕ) → one ≡ label_among false cs → other ≡ label_among true cs → option_labels one ++ option_labels other ≡ control_labels cs
unfolding control_labels
controls_are cs one other first second = ap (λ o. option_labels o ++ option_labels other) first ∙ ap (λ o. option_labels (label_among false cs) ++ option_labels o) second
