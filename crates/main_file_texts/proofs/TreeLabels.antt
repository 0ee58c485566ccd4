-- The labels of the statements that are made by the names of their forms.
use Rattle.std.specs.Prelude.{◌≡◌, ℕ, ◌+◌, List, [], ◌∷◌, ◌++◌, map, Some, None}
use Rattle.std.proofs.Common.{refl, sym, ap, ◌∙◌}
use Rattle.std.proofs.lemmas.List.{map-append, append-nil}
use Rattle.main_translation_laws.specs.c_tree.declared.expression.CExpr.{CExpr}
use Rattle.main_translation_laws.specs.c_tree.declared.statement.CCase.{CCase}
use Rattle.main_translation_laws.specs.c_tree.declared.statement.CNext.{CNext}
use Rattle.main_translation_laws.specs.c_tree.declared.statement.CStmt as stmt
use Rattle.main_translation_laws.specs.c_tree.declared.statement.CStmt.{CStmt}
use Rattle.main_translation_laws.specs.c_tree.declared.statement.CStmt.TheVariants as form
use Rattle.main_translation_laws.specs.c_tree.CLabels.{no_label, both, standing, labels_of, labels_in, labels_of_other, labels_of_all}
use Rattle.main_translation_laws.specs.c_tree.FlatForm.{LabelAt, Body, body, bodies, arms, body_of_all}
use Rattle.main_translation_laws.specs.c_tree.Opened.{trees_opened}

pub labels_block : (ss : List CStmt) → labels_of (form.Block ss) ≡ labels_of_all ss
unfolding trees_opened
labels_block [] = refl
labels_block (first ∷ later) = ap (both (labels_of first)) (labels_block later)

pub labels_label : (name : List ℕ) (s : CStmt) → labels_of (form.Label name s) ≡ standing name (labels_of s)
unfolding trees_opened
labels_label name s = refl

pub labels_if : (test : CExpr) (first : List CStmt) → labels_of (form.If test first None) ≡ both (labels_of_all first) no_label
unfolding trees_opened
labels_if test first = ap (λ l. both l no_label) (labels_block first)

pub labels_if_else : (test : CExpr) (first second : List CStmt) → labels_of (form.If test first (Some second)) ≡ both (labels_of_all first) (labels_of_all second)
unfolding trees_opened
labels_if_else test first second = λ i. both (labels_block first i) (labels_block second i)

pub labels_for : (variable first test : CExpr) (next : CNext) (turn : List CStmt) → labels_of (form.For variable first test next turn) ≡ labels_of_all turn
unfolding trees_opened
labels_for variable first test next turn = labels_block turn

pub labels_do : (turn : List CStmt) (test : CExpr) → labels_of (form.DoWhile turn test) ≡ labels_of_all turn
unfolding trees_opened
labels_do turn test = labels_block turn

pub labels_switch : (value : CExpr) (cases : List CCase) → labels_of (form.Switch value cases) ≡ record { stand = []; named = map (λ (case : CCase). case.label) cases }
unfolding trees_opened
labels_switch value cases = refl

-- ## Where they stand

abbrev pub names_at : List LabelAt → List (List ℕ)
names_at labels = map (λ (label : LabelAt). label.name) labels

both_named : (xs ys : List LabelAt) (these those : List (List ℕ)) → names_at xs ≡ these → names_at ys ≡ those → names_at (xs ++ ys) ≡ these ++ those
both_named xs ys these those one other = map-append (λ (label : LabelAt). label.name) xs ys ∙ (λ i. one i ++ other i)

mutual
  pub stand_at : (s : CStmt) (n : ℕ) → names_at ((body s).labels n) ≡ (labels_of s).stand
  stand_at (stmt.Set to e) n = refl
  stand_at (stmt.SetCall to call) n = refl
  stand_at (stmt.Call call) n = refl
  stand_at stmt.Empty n = refl
  stand_at (stmt.Block' shape inner) n = stand_in inner n
  stand_at (stmt.Label' name shape (stmt.more_of-CStmt s stmt.end_of-CStmt)) n = ap (λ names. name ∷ names) (stand_at s n)
  stand_at (stmt.Goto label) n = refl
  stand_at (stmt.Return value) n = refl
  stand_at (stmt.ReturnCall call) n = refl
  stand_at (stmt.If' test shape first other) n = stand_arms test (bodies first) (labels_in first).stand other n (stand_in first (n + 1))
  stand_at (stmt.Switch value cases) n = refl
  stand_at (stmt.For' to first test next shape turn) n = stand_in turn (n + 2)
  stand_at (stmt.DoWhile' shape turn test) n = stand_in turn n

  stand_in : {count : _} (row : stmt.Row_of-CStmt count) (n : ℕ) → names_at ((bodies row).labels n) ≡ (labels_in row).stand
  stand_in stmt.end_of-CStmt n = refl
  stand_in (stmt.more_of-CStmt first later) n =
      both_named ((body first).labels n) ((bodies later).labels (n + (body first).size)) (labels_of first).stand (labels_in later).stand (stand_at first n) (stand_in later (n + (body first).size))

  stand_arms : (test : CExpr) (first : Body) (names : List (List ℕ)) (other : stmt.Held-CStmt-If-2) (n : ℕ) → names_at (first.labels (n + 1)) ≡ names → names_at ((arms test first other).labels n) ≡ names ++ (labels_of_other other).stand
  stand_arms test first names stmt.None' n one = one ∙ sym (append-nil names)
  stand_arms test first names (stmt.Some' shape second) n one =
      both_named (first.labels (n + 1)) ((bodies second).labels (n + 2 + first.size)) names (labels_in second).stand one (stand_in second (n + 2 + first.size))

pub stand_in_all : (ss : List CStmt) (n : ℕ) → names_at ((body_of_all ss).labels n) ≡ (labels_of_all ss).stand
stand_in_all [] n = refl
stand_in_all (s ∷ ss) n =
    both_named ((body s).labels n) ((body_of_all ss).labels (n + (body s).size)) (labels_of s).stand (labels_of_all ss).stand (stand_at s n) (stand_in_all ss (n + (body s).size))
