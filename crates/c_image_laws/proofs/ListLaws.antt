-- Lists by what stands at each of their places.
use Rattle.std.specs.Prelude.{◌≡◌, ◌≢◌, ℕ, zero, suc, ◌+◌, ◌<◌, ◌≤◌, Bool, true, false, nat_eq, nat_lt, List, [], ◌∷◌, ◌++◌, map, length, take, drop, Option, Some, None, option_map, slice_get}
use Rattle.std.proofs.Common.{refl, sym, ap, ◌∙◌, arith}
use Rattle.std.proofs.lemmas.Bool.{eqb-true, eq-eqb, ltb-true, leb-false}
use Rattle.std.proofs.lemmas.Option.{slice_get_within, slice_get-map}
use Rattle.std.proofs.lemmas.List.{length-append, length-take-le, length-map}
use Rattle.c_laws.specs.c_tree.Objects.{overlaid}

pub at_front : {A : Type 0} (xs ys : List A) (i : ℕ) → i < length xs → slice_get (xs ++ ys) i ≡ slice_get xs i
at_front [] ys i inside = absurd (omega (arith, inside))
at_front (x ∷ xs) ys zero inside = refl
at_front (x ∷ xs) ys (suc i) inside = at_front xs ys i (omega (arith, inside))

pub at_back : {A : Type 0} (xs ys : List A) (i place : ℕ) → place ≡ length xs + i → slice_get (xs ++ ys) place ≡ slice_get ys i
at_back [] ys i place is = let same : place ≡ i = omega (arith, is) in ap (slice_get ys) same
at_back (x ∷ xs) ys i zero is = absurd (omega (arith, is))
at_back (x ∷ xs) ys i (suc place) is = at_back xs ys i place (omega (arith, is))

pub at_taken : {A : Type 0} (n : ℕ) (xs : List A) (i : ℕ) → i < n → slice_get (take n xs) i ≡ slice_get xs i
at_taken zero xs i inside = absurd (omega (arith, inside))
at_taken (suc n) [] i inside = refl
at_taken (suc n) (x ∷ xs) zero inside = refl
at_taken (suc n) (x ∷ xs) (suc i) inside = at_taken n xs i (omega (arith, inside))

pub at_dropped : {A : Type 0} (n : ℕ) (xs : List A) (i place : ℕ) → place ≡ n + i → slice_get (drop n xs) i ≡ slice_get xs place
at_dropped zero xs i place is = let same : i ≡ place = omega (arith, is) in ap (slice_get xs) same
at_dropped (suc n) [] i place is = refl
at_dropped (suc n) (x ∷ xs) i zero is = absurd (omega (arith, is))
at_dropped (suc n) (x ∷ xs) i (suc place) is = at_dropped n xs i place (omega (arith, is))

some_is : {A : Type 0} (x y : A) → Some x ≡ Some y → x ≡ y
some_is x y is = cc

-- what is there by one name and by another
pub one_there : {A : Type 0} (found : Option A) (x y : A) → found ≡ Some x → found ≡ Some y → x ≡ y
one_there found x y first second = some_is x y (sym first ∙ second)

pub none_there : {A : Type 0} (found : Option A) (x : A) → found ≡ None → found ≡ Some x → ⊥
none_there found x first second = let none : None ≡ Some x = sym first ∙ second in cc

-- a list that stands in another from a place on
pub taken_by_each : {A : Type 0} (ys xs : List A) (first : ℕ) → ((i place : ℕ) (y : A) → place ≡ first + i → slice_get ys i ≡ Some y → slice_get xs place ≡ Some y) →
    take (length ys) (drop first xs) ≡ ys
taken_by_each [] xs first each = refl
taken_by_each (y ∷ ys) xs first each =
    ap (take (suc (length ys))) (dropped first xs y (each 0 first y (omega arith) refl)) ∙
    ap (λ later. y ∷ later) (taken_by_each ys xs (suc first) (λ i place z at there. each (suc i) place z (omega (arith, at)) there))
  where
    dropped : {A : Type 0} (n : ℕ) (xs : List A) (x : A) → slice_get xs n ≡ Some x → drop n xs ≡ x ∷ drop (suc n) xs
    dropped n [] x there = absurd (cc)
    dropped zero (a ∷ xs) x there = let same : a ≡ x = some_is a x there in ap (λ b. b ∷ xs) same
    dropped (suc n) (a ∷ xs) x there = dropped n xs x there

-- what stands at the places of a part of a list
pub within_taken : {A : Type 0} (ys xs : List A) (first count : ℕ) → take count (drop first xs) ≡ ys → (i place : ℕ) (y : A) → place ≡ first + i → slice_get ys i ≡ Some y →
    slice_get xs place ≡ Some y
within_taken ys xs first count is i place y at there =
    let found : slice_get (take count (drop first xs)) i ≡ Some y = ap (λ list. slice_get list i) is ∙ there in
    inside (nat_lt i count) refl found
  where
    inside : (test : Bool) → nat_lt i count ≡ test → slice_get (take count (drop first xs)) i ≡ Some y → slice_get xs place ≡ Some y
    inside true holds found = sym (at_taken count (drop first xs) i (ltb-true i count holds) ∙ at_dropped first xs i place at) ∙ found
    inside false holds found = absurd (past count (drop first xs) i (leb-false (suc i) count holds) found)
      where
        past : {A : Type 0} (n : ℕ) (xs : List A) (i : ℕ) {y : A} → n < suc i → slice_get (take n xs) i ≡ Some y → ⊥
        past zero xs i behind found = cc
        past (suc n) [] i behind found = cc
        past (suc n) (x ∷ xs) zero behind found = absurd (omega (arith, behind))
        past (suc n) (x ∷ xs) (suc i) behind found = past n xs i (omega (arith, behind)) found

-- ## Bytes that are laid over others

pub overlaid_before : (first : ℕ) (new : List ℕ) (bytes : List (Option ℕ)) (place : ℕ) → first ≤ length bytes → place < first →
    slice_get (overlaid first new bytes) place ≡ slice_get bytes place
overlaid_before first new bytes place fits before =
    let size = length-take-le first bytes fits in
    let both = length-append (take first bytes) (map Some new) in
    at_front (take first bytes ++ map Some new) (drop (first + length new) bytes) place (omega (arith, size, both, before)) ∙
    at_front (take first bytes) (map Some new) place (omega (arith, size, before)) ∙
    at_taken first bytes place before

pub overlaid_within : (first : ℕ) (new : List ℕ) (bytes : List (Option ℕ)) (i place byte : ℕ) → first ≤ length bytes → place ≡ first + i → slice_get new i ≡ Some byte →
    slice_get (overlaid first new bytes) place ≡ Some (Some byte)
overlaid_within first new bytes i place byte fits at there =
    let size = length-take-le first bytes fits in
    let both = length-append (take first bytes) (map Some new) in
    let count = length-map new Some in
    let inside = slice_get_within new i byte there in
    at_front (take first bytes ++ map Some new) (drop (first + length new) bytes) place (omega (arith, size, both, count, inside, at)) ∙
    at_back (take first bytes) (map Some new) i place (omega (arith, size, at)) ∙
    slice_get-map Some new i ∙
    ap (option_map Some) there

pub overlaid_behind : (first : ℕ) (new : List ℕ) (bytes : List (Option ℕ)) (i place : ℕ) → first + length new ≤ length bytes → place ≡ first + length new + i →
    slice_get (overlaid first new bytes) place ≡ slice_get bytes place
overlaid_behind first new bytes i place fits at =
    let size = length-take-le first bytes (omega (arith, fits)) in
    let both = length-append (take first bytes) (map Some new) in
    let count = length-map new Some in
    at_back (take first bytes ++ map Some new) (drop (first + length new) bytes) i place (omega (arith, size, both, count, at)) ∙
    at_dropped (first + length new) bytes i place at

-- ## Numbers that are equal or are not

pub by_equal : (P : Type 0) (a b : ℕ) → (a ≡ b → P) → (a ≢ b → P) → P
by_equal P a b same apart = by (nat_eq a b) refl
  where
    by : (test : Bool) → nat_eq a b ≡ test → P
    by true holds = same (eqb-true a b holds)
    by false holds = apart (λ is. let one : true ≡ false = sym (eq-eqb a b is) ∙ holds in absurd (cc))

pub by_less : (P : Type 0) (a b : ℕ) → (a < b → P) → ((i : ℕ) → a ≡ b + i → P) → P
by_less P a b less more = by (nat_lt a b) refl
  where
    difference : (a b : ℕ) → b ≤ a → (i : ℕ) × (a ≡ b + i)
    difference a zero above = (a, omega arith)
    difference zero (suc b) above = absurd (omega (arith, above))
    difference (suc a) (suc b) above = let d = difference a b (omega (arith, above)) in (d.0, (let is = d.1 in omega (arith, is)))

    by : (test : Bool) → nat_lt a b ≡ test → P
    by true holds = less (ltb-true a b holds)
    by false holds = let d = difference a b (let behind = leb-false (suc a) b holds in omega (arith, behind)) in more d.0 d.1
