-- The code of a function whose statements were built for items.
use Rattle.std.specs.Prelude.{◌≡◌, ℕ, suc, ◌+◌, ◌<◌, ◌≤◌, nat_eq, Bool, true, false, List, [], ◌∷◌, ◌++◌, length, Option, Some, None, bytes_eq}
use Rattle.std.proofs.Common.{refl, sym, ap, ◌∙◌, subst, arith}
use Rattle.std.proofs.lemmas.Bool.{eqb-true, eqb-false}
use Rattle.c_structure_laws.specs.c_tree.declared.file.CFunction.{CFunction}
use Rattle.c_structure_laws.specs.c_tree.Flat.{Flat}
use Rattle.c_structure_laws.specs.c_tree.Drafts.{Scope}
use Rattle.c_structure_laws.specs.c_tree.FlatForm.{LabelAt, Labels, Body, position_of, body_of_all, with_return, whole_body, flat_form}
use Rattle.c_structure_laws.specs.c_tree.Linking.{Routines, strings_of, linked_function}
use Rattle.c_structure_laws.specs.c_structure.Statements.{Outline, strings_of_items}
use Rattle.c_structure_laws.specs.Fitting.{KnowsItems, AreNumbered, AreBytesOf, mark_at, marks_from, Fits, AreLabels}
use Rattle.c_structure_laws.proofs.FittingStatements.{statements_are_theirs}
use Rattle.linking_laws.specs.Linked.{statics, first_string, scope_of, IsBuilt, StringsAreTheirs, CodeIsTheirs}
use Rattle.linking_laws.proofs.Places.{some_same, other_bytes, same_bytes, taken, skipped}

-- ## Labels

module _ (o : Outline) (alone : (m n : ℕ) (name : List ℕ) → o.label m ≡ Some name → o.label n ≡ Some name → m ≡ n) where
  past_mark : (n m : ℕ) (name : List ℕ) (found : Option (List ℕ)) (later : List LabelAt) → o.label n ≡ Some name → o.label m ≡ found → suc m ≤ n → position_of (mark_at m found ++ later) name ≡ position_of later name
  past_mark n m name None later stands at before = refl
  past_mark n m name (Some other) later stands at before =
      skipped (bytes_eq name other) (Some m) (position_of later name)
      (other_bytes name other (λ same. let here : n ≡ m = alone n m other (stands ∙ ap Some same) at in let no : ⊥ = omega (arith, here, before) in no))

  first_mark : (n : ℕ) (name : List ℕ) (found : Option (List ℕ)) (later : List LabelAt) → found ≡ Some name → position_of (mark_at n found ++ later) name ≡ Some n
  first_mark n name None later same = absurd (cc)
  first_mark n name (Some other) later same = taken (bytes_eq name other) (Some n) (position_of later name) (same_bytes name other (sym (some_same other name same)))

  found_from : (items : List Flat) (m n : ℕ) (name : List ℕ) → o.label n ≡ Some name → m ≤ n → n < m + length items → position_of (marks_from o.label m items) name ≡ Some n
  found_from [] m n name stands from before = absurd (let no : ⊥ = omega (arith, from, before) in no)
  found_from (item ∷ later) m n name stands from before = by (nat_eq m n) refl (λ further. found_from later (suc m) n name stands further (omega (arith, before)))
    where
      by : (b : Bool) → nat_eq m n ≡ b → (suc m ≤ n → position_of (marks_from o.label (suc m) later) name ≡ Some n) → position_of (mark_at m (o.label m) ++ marks_from o.label (suc m) later) name ≡ Some n
      by true h others =
          let same : m ≡ n = eqb-true m n h in
          subst (λ k. position_of (mark_at m (o.label m) ++ marks_from o.label (suc m) later) name ≡ Some k) same (first_mark m name (o.label m) (marks_from o.label (suc m) later) (ap o.label same ∙ stands))
      by false h others =
          let other = eqb-false m n h in
          let further : suc m ≤ n = omega (arith, from, other) in
          past_mark n m name (o.label m) (marks_from o.label (suc m) later) stands refl further ∙ others further

-- ## The code

-- the labels of what was built, and that it fits its items, wherever its names stand for what they are taken to stand for
pub labels_are : (o : Outline) (items : List Flat) (function : CFunction) → IsBuilt o items function → AreLabels o (position_of (marks_from o.label 0 items))
labels_are o items function is = record { found = λ n name stands. found_from o is.alone items 0 n name stands (omega arith) (let inside = is.inside n name stands in omega (arith, inside)); none = is.none }

pub built_fit : (scope : Scope) (o : Outline) (items : List Flat) (function : CFunction) → IsBuilt o items function → KnowsItems scope o.names items → Fits o scope (position_of (marks_from o.label 0 items)) 0 items (body_of_all function.body)
built_fit scope o items function is knows = statements_are_theirs o scope (position_of (marks_from o.label 0 items)) is.turns 0 items function.body (labels_are o items function is) is.statements knows

pub whole_is : (o : Outline) (items : List Flat) (function : CFunction) → IsBuilt o items function → whole_body function.body ≡ body_of_all function.body
whole_is o items function is = ap (λ b. with_return b (body_of_all function.body)) is.ended

module _ (numbers : Routines) (own : ℕ) (outer : Scope) (base : ℕ) (function : CFunction) (o : Outline) (items : List Flat) (is : IsBuilt o items function)
    (knows : KnowsItems (scope_of numbers outer base function) o.names items) where
  fits : Fits o (scope_of numbers outer base function) (position_of (marks_from o.label 0 items)) 0 items (body_of_all function.body)
  fits = built_fit (scope_of numbers outer base function) o items function is knows

  whole : whole_body function.body ≡ body_of_all function.body
  whole = whole_is o items function is

  its_strings : AreBytesOf o.names (whole_body function.body).items.strings (strings_of_items o.names items)
  its_strings = subst (λ (b : Body). AreBytesOf o.names b.items.strings (strings_of_items o.names items)) (sym whole) fits.strings

  its_code : AreNumbered (first_string base function + length (strings_of (statics function))) (strings_of_items o.names items) → (linked_function numbers own outer base function).function.code ≡ items
  its_code are' =
      ap (λ b. flat_form b (scope_of numbers outer base function) (first_string base function + length (strings_of (statics function)))) whole
      ∙ ap (λ marks. (body_of_all function.body).items.drawn (scope_of numbers outer base function) (first_string base function + length (strings_of (statics function))) (position_of marks) 0) fits.marks
      ∙ fits.drawn (first_string base function + length (strings_of (statics function))) are'

pub strings_are_theirs : StringsAreTheirs
strings_are_theirs numbers outer base function o items is knows = its_strings numbers 0 outer base function o items is knows

pub code_is_theirs : CodeIsTheirs
code_is_theirs numbers own outer base function o items is knows are = its_code numbers own outer base function o items is knows are
