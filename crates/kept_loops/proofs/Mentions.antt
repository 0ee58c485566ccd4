-- The labels that statements name are those that are named in the order of the text.
use Rattle.std.specs.List.{list_all}
use Rattle.std.specs.Prelude.{◌≡◌, ℕ, Bool, true, ◌||◌, List, [], ◌∷◌, ◌++◌, map}
use Rattle.std.proofs.Common.{refl, ap, ◌∙◌}
use Rattle.std.proofs.lemmas.Bool.{and_from, and_parts}
use Rattle.translated_files.specs.c_tree.CLabels.{labels_of, labels_in, labels_of_other, labels_of_all}
use Rattle.translated_files.specs.c_tree.declared.statement.CCase.{CCase}
use Rattle.translated_files.specs.c_tree.declared.statement.CStmt as stmt
use Rattle.kept_loops.specs.NamedAhead.{Mention, Stands, IsNamed, mentions_of, mentions_in, mentions_of_other, mentions_of_all, stands_in, named_ahead}

-- the labels that are named
abbrev pub names_in : List Mention → List (List ℕ)
names_in [] = []
names_in (Stands name ∷ later) = names_in later
names_in (IsNamed name ∷ later) = name ∷ names_in later

names_both : (xs ys : List Mention) → names_in (xs ++ ys) ≡ names_in xs ++ names_in ys
names_both [] ys = refl
names_both (Stands name ∷ xs) ys = names_both xs ys
names_both (IsNamed name ∷ xs) ys = ap (λ names. name ∷ names) (names_both xs ys)

both_named : (xs ys : List Mention) (these those : List (List ℕ)) → names_in xs ≡ these → names_in ys ≡ those → names_in (xs ++ ys) ≡ these ++ those
both_named xs ys these those one other = names_both xs ys ∙ (λ i. one i ++ other i)

cases_named : (cases : List CCase) → names_in (map (λ (case : CCase). IsNamed case.label) cases) ≡ map (λ (case : CCase). case.label) cases
cases_named [] = refl
cases_named (case ∷ cases) = ap (λ names. case.label ∷ names) (cases_named cases)

mutual
  unfolding mentions_of mentions_in mentions_of_other

  named_of : (s : stmt.CStmt) → names_in (mentions_of s) ≡ (labels_of s).named
  named_of (stmt.Set to e) = refl
  named_of (stmt.SetCall to call) = refl
  named_of (stmt.Call call) = refl
  named_of stmt.Empty = refl
  named_of (stmt.Block' shape inner) = named_in inner
  named_of (stmt.Label' name shape (stmt.more_of-CStmt s stmt.end_of-CStmt)) = named_of s
  named_of (stmt.Goto label) = refl
  named_of (stmt.Return value) = refl
  named_of (stmt.ReturnCall call) = refl
  named_of (stmt.If' test shape first other) = both_named (mentions_in first) (mentions_of_other other) (labels_in first).named (labels_of_other other).named (named_in first) (named_of_other other)
  named_of (stmt.Switch value cases) = cases_named cases
  named_of (stmt.For' to first test next shape turn) = named_in turn
  named_of (stmt.DoWhile' shape turn test) = named_in turn

  named_in : {count : _} (row : stmt.Row_of-CStmt count) → names_in (mentions_in row) ≡ (labels_in row).named
  named_in stmt.end_of-CStmt = refl
  named_in (stmt.more_of-CStmt first later) = both_named (mentions_of first) (mentions_in later) (labels_of first).named (labels_in later).named (named_of first) (named_in later)

  named_of_other : (other : stmt.Held-CStmt-If-2) → names_in (mentions_of_other other) ≡ (labels_of_other other).named
  named_of_other stmt.None' = refl
  named_of_other (stmt.Some' shape second) = named_in second

named_of_all : (ss : List stmt.CStmt) → names_in (mentions_of_all ss) ≡ (labels_of_all ss).named
unfolding mentions_of_all
named_of_all [] = refl
named_of_all (s ∷ ss) = both_named (mentions_of s) (mentions_of_all ss) (labels_of s).named (labels_of_all ss).named (named_of s) (named_of_all ss)

-- where all that are named pass the test, none need be ahead
none_needed : (passes : List ℕ → Bool) (ms : List Mention) → list_all passes (names_in ms) ≡ true → named_ahead passes ms ≡ true
unfolding named_ahead
none_needed passes [] h = refl
none_needed passes (Stands name ∷ ms) h = none_needed passes ms h
none_needed passes (IsNamed name ∷ ms) h =
    let parts = and_parts (passes name) (list_all passes (names_in ms)) h in
    and_from (passes name || stands_in ms name) (named_ahead passes ms) (ap (λ b. b || stands_in ms name) parts.0) (none_needed passes ms parts.1)

pub ahead_by : (passes : List ℕ → Bool) (body : List stmt.CStmt) → list_all passes (labels_of_all body).named ≡ true → named_ahead passes (mentions_of_all body) ≡ true
ahead_by passes body h = none_needed passes (mentions_of_all body) (ap (list_all passes) (named_of_all body) ∙ h)
