-- Names that are told apart by computing, and what is so of each part of a list.
use Rattle.std.specs.List.{list_all}
use Rattle.std.specs.Prelude.{◌≡◌, ℕ, zero, suc, ◌+◌, ℤ, Bool, true, false, not, ◌&&◌, ◌||◌, List, [], ◌∷◌, Some, slice_get, bytes_eq}
use Rattle.std.proofs.Common.{refl, sym, ap, ◌∙◌, subst, arith}
use Rattle.emitted_procedures.specs.c_tree.Linking.{any_of, repeats}
use Rattle.unit_file_laws.specs.linking_laws.Linked.{AreDistinct, IsNone}
use Rattle.unit_file_laws.proofs.linking_laws.Places.{some_same, same_bytes}
use Rattle.unit_file_laws.specs.unit_file.UnitFile.{Inventory, lasting_names, framed_names}
use Rattle.unit_file_laws.specs.unit_file.UnitNames.{constant_names, called_names}
use Rattle.unit_file_laws.specs.KnownUnits.{NamesDiffer}

neither : (s t : Bool) → (s || t) ≡ false → (s ≡ false) × (t ≡ false)
neither false false h = (refl, refl)
neither false true h = absurd (cc)
neither true t h = absurd (cc)

not_so : {A : Type 0} (s : Bool) → s ≡ true → s ≡ false → A
not_so s one other = let no : true ≡ false = sym one ∙ other in absurd (cc)

pub none_by : (name : List ℕ) (names : List (List ℕ)) → any_of (bytes_eq name) names ≡ false → IsNone name names
none_by name [] h i at = absurd (cc)
none_by name (x ∷ xs) h zero at = not_so (bytes_eq name x) (same_bytes name x (sym (some_same x name at))) (neither (bytes_eq name x) (any_of (bytes_eq name) xs) h).0
none_by name (x ∷ xs) h (suc i) at = none_by name xs (neither (bytes_eq name x) (any_of (bytes_eq name) xs) h).1 i at

pub distinct_by : (names : List (List ℕ)) → repeats names ≡ false → AreDistinct names
distinct_by [] h i j name one other = absurd (cc)
distinct_by (x ∷ xs) h zero zero name one other = refl
distinct_by (x ∷ xs) h zero (suc j) name one other = absurd (none_by x xs (neither (any_of (bytes_eq x) xs) (repeats xs) h).0 j (other ∙ sym one))
distinct_by (x ∷ xs) h (suc i) zero name one other = absurd (none_by x xs (neither (any_of (bytes_eq x) xs) (repeats xs) h).0 i (one ∙ sym other))
distinct_by (x ∷ xs) h (suc i) (suc j) name one other = ap suc (distinct_by xs (neither (any_of (bytes_eq x) xs) (repeats xs) h).1 i j name one other)

-- none of some names is among others
abbrev pub are_apart : List (List ℕ) → List (List ℕ) → Bool
are_apart some others = list_all (λ name. not (any_of (bytes_eq name) others)) some

both_so : (s t : Bool) → (s && t) ≡ true → (s ≡ true) × (t ≡ true)
both_so true true h = (refl, refl)
both_so true false h = absurd (cc)
both_so false t h = absurd (cc)

false_by : (s : Bool) → not s ≡ true → s ≡ false
false_by false h = refl
false_by true h = absurd (cc)

pub apart_by : (some others : List (List ℕ)) → are_apart some others ≡ true → (i : ℕ) (name : List ℕ) → slice_get some i ≡ Some name → IsNone name others
apart_by [] others h i name at = absurd (cc)
apart_by (x ∷ xs) others h zero name at =
    subst (λ n. IsNone n others) (some_same x name at) (none_by x others (false_by (any_of (bytes_eq x) others) (both_so (not (any_of (bytes_eq x) others)) (are_apart xs others) h).0))
apart_by (x ∷ xs) others h (suc i) name at = apart_by xs others (both_so (not (any_of (bytes_eq x) others)) (are_apart xs others) h).1 i name at

-- the names of a function of the file are told apart
pub differ_by : (zs : List ℤ) (v : Inventory) → repeats (constant_names zs) ≡ false → repeats (lasting_names v) ≡ false → repeats (framed_names v) ≡ false → are_apart (framed_names v) (lasting_names v) ≡ true
    → are_apart (constant_names zs) (lasting_names v) ≡ true → are_apart (constant_names zs) (framed_names v) ≡ true → are_apart (constant_names zs) (called_names v) ≡ true → are_apart (called_names v) (lasting_names v) ≡ true
    → are_apart (called_names v) (framed_names v) ≡ true → NamesDiffer zs v
differ_by zs v constants lasting framed not_lasting one two three four five = record {
  constants = distinct_by (constant_names zs) constants;
  lasting = distinct_by (lasting_names v) lasting;
  framed = distinct_by (framed_names v) framed;
  not_lasting = apart_by (framed_names v) (lasting_names v) not_lasting;
  not_own = λ i name at. (
    apart_by (constant_names zs) (lasting_names v) one i name at,
    apart_by (constant_names zs) (framed_names v) two i name at,
    apart_by (constant_names zs) (called_names v) three i name at,
  );
  not_objects = λ i name at. (apart_by (called_names v) (lasting_names v) four i name at, apart_by (called_names v) (framed_names v) five i name at);
}

-- P holds of each part and its place
abbrev pub EachAt : {A : Type 0} → (ℕ → A → Type 0) → ℕ → List A → Type 0
EachAt P n [] = Unit {0}
EachAt P n (x ∷ xs) = P n x × EachAt P (suc n) xs

each_from : {A : Type 0} (P : ℕ → A → Type 0) (n : ℕ) (xs : List A) → EachAt P n xs → (i m : ℕ) (x : A) → m ≡ n + i → slice_get xs i ≡ Some x → P m x
each_from P n [] each i m x is at = absurd (cc)
each_from P n (y ∷ xs) each zero m x is at =
    let here : n ≡ m = omega (arith, is) in
    subst (λ k. P k x) here (subst (P n) (some_same y x at) each.0)
each_from P n (y ∷ xs) each (suc i) m x is at = each_from P (suc n) xs each.1 i m x (omega (arith, is)) at

pub each_at : {A : Type 0} (P : ℕ → A → Type 0) (xs : List A) → EachAt P 0 xs → (i : ℕ) (x : A) → slice_get xs i ≡ Some x → P i x
each_at P xs each i x at = each_from P 0 xs each i i x (omega arith) at
