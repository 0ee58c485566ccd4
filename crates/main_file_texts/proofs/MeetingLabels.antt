-- Each label that the statements name stands in them once.
use Rattle.std.specs.Prelude.{◌≡◌, ℕ, suc, ◌+◌, ◌<◌, ◌≤◌, ◌==◌, nat_eq, Bool, true, false, ◌&&◌, List, [], ◌∷◌, ◌++◌, length, filter, Option, Some, None, bytes_eq}
use Rattle.std.specs.List.{list_all}
use Rattle.std.proofs.Common.{refl, sym, ap, ◌∙◌, subst, arith}
use Rattle.std.proofs.lemmas.Bool.{eqb-true, eqb-false}
use Rattle.main_translation_laws.specs.c_tree.declared.statement.CStmt.{CStmt}
use Rattle.main_translation_laws.specs.c_tree.CLabels.{labels_of_all, stands_once, labels_meet}
use Rattle.main_translation_laws.specs.c_tree.Flat.{Flat}
use Rattle.main_translation_laws.specs.c_tree.FlatForm.{LabelAt, body_of_all}
use Rattle.main_translation_laws.specs.c_structure_laws.Fitting.{mark_at, marks_from}
use Rattle.main_translation_laws.proofs.linking_laws.Places.{some_same, other_bytes, same_bytes, taken, skipped}
use Rattle.main_file_texts.specs.WellFormedMains.{AllStand}
use Rattle.main_file_texts.proofs.TreeLabels.{names_at, stand_in_all}

module _ (label : ℕ → Option (List ℕ)) (alone : (m n : ℕ) (name : List ℕ) → label m ≡ Some name → label n ≡ Some name → m ≡ n) where
  past_mark : (n m : ℕ) (name : List ℕ) (found : Option (List ℕ)) (rest : List LabelAt) → label n ≡ Some name → label m ≡ found → (n ≡ m → ⊥)
      → filter (bytes_eq name) (names_at (mark_at m found ++ rest)) ≡ filter (bytes_eq name) (names_at rest)
  past_mark n m name None rest stands at differ = refl
  past_mark n m name (Some other) rest stands at differ =
      skipped (bytes_eq name other) (other ∷ filter (bytes_eq name) (names_at rest)) (filter (bytes_eq name) (names_at rest)) (other_bytes name other (λ same. differ (alone n m other (stands ∙ ap Some same) at)))

  own_mark : (n : ℕ) (name : List ℕ) (found : Option (List ℕ)) (rest : List LabelAt) → found ≡ Some name → length (filter (bytes_eq name) (names_at (mark_at n found ++ rest))) ≡ suc (length (filter (bytes_eq name) (names_at rest)))
  own_mark n name None rest same = absurd (cc)
  own_mark n name (Some other) rest same =
      ap length (taken (bytes_eq name other) (other ∷ filter (bytes_eq name) (names_at rest)) (filter (bytes_eq name) (names_at rest)) (same_bytes name other (sym (some_same other name same))))

  -- none stands behind its position
  none_behind : (items : List Flat) (m n : ℕ) (name : List ℕ) → label n ≡ Some name → n < m → filter (bytes_eq name) (names_at (marks_from label m items)) ≡ []
  none_behind [] m n name stands before = refl
  none_behind (item ∷ later) m n name stands before =
      past_mark n m name (label m) (marks_from label (suc m) later) stands refl (λ same. let no : ⊥ = omega (arith, same, before) in no) ∙ none_behind later (suc m) n name stands (omega (arith, before))

  one_there : (items : List Flat) (m n : ℕ) (name : List ℕ) → label n ≡ Some name → m ≤ n → n < m + length items → length (filter (bytes_eq name) (names_at (marks_from label m items))) ≡ 1
  one_there [] m n name stands from before = absurd (let no : ⊥ = omega (arith, from, before) in no)
  one_there (item ∷ later) m n name stands from before = by (nat_eq m n) refl (λ further. one_there later (suc m) n name stands further (omega (arith, before)))
    where
      by : (b : Bool) → nat_eq m n ≡ b → (suc m ≤ n → length (filter (bytes_eq name) (names_at (marks_from label (suc m) later))) ≡ 1)
          → length (filter (bytes_eq name) (names_at (mark_at m (label m) ++ marks_from label (suc m) later))) ≡ 1
      by true h others =
          let same : m ≡ n = eqb-true m n h in
          own_mark m name (label m) (marks_from label (suc m) later) (ap label same ∙ stands) ∙ ap (λ (names : List (List ℕ)). suc (length names)) (none_behind later (suc m) n name stands (omega (arith, same)))
      by false h others =
          let other = eqb-false m n h in
          let further : suc m ≤ n = omega (arith, from, other) in
          ap length (past_mark n m name (label m) (marks_from label (suc m) later) stands refl (λ same. let no : ⊥ = omega (arith, same, further) in no)) ∙ others further

  all_once : (stand named : List (List ℕ)) → ((n : ℕ) (name : List ℕ) → label n ≡ Some name → stands_once stand name ≡ true) → AllStand label named → list_all (stands_once stand) named ≡ true
  all_once stand [] once all = refl
  all_once stand (name ∷ named) once all = λ i. once all.0.0 name all.0.1 i && all_once stand named once all.1 i

  pub labels_do_meet : (items : List Flat) (body : List CStmt) → ((n : ℕ) (name : List ℕ) → label n ≡ Some name → n < length items) → (body_of_all body).labels 0 ≡ marks_from label 0 items → AllStand label (labels_of_all body).named
      → labels_meet body ≡ true
  labels_do_meet items body inside marks named = all_once (labels_of_all body).stand (labels_of_all body).named once named
    where
      stand_is : names_at (marks_from label 0 items) ≡ (labels_of_all body).stand
      stand_is = ap names_at (sym marks) ∙ stand_in_all body 0

      once : (n : ℕ) (name : List ℕ) → label n ≡ Some name → stands_once (labels_of_all body).stand name ≡ true
      once n name stands =
          subst (λ names. stands_once names name ≡ true) stand_is
          (let count : length (filter (bytes_eq name) (names_at (marks_from label 0 items))) ≡ 1 = one_there items 0 n name stands (omega arith) (let within = inside n name stands in omega (arith, within)) in ap (λ k. k == 1) count)
