-- Lists that are put together from pieces, and where the parts of each piece stand.
use Rattle.std.specs.List.{flat_map}
use Rattle.std.specs.Prelude.{◌≡◌, ℕ, zero, suc, ◌+◌, List, [], ◌∷◌, length, position, Some, option_map, slice_get, bytes_eq}
use Rattle.std.proofs.Common.{refl, sym, ap, ◌∙◌, arith}
use Rattle.unit_file_laws.proofs.linking_laws.Places.{some_same, get_front, get_back, IsAt, in_first, in_second, at_one, same_bytes, other_bytes, taken, skipped, position_step}

-- how many parts stand before those of a piece
abbrev pub before : {A B : Type 0} → (A → List B) → List A → ℕ → ℕ
before f [] j = 0
before f (x ∷ xs) zero = 0
before f (x ∷ xs) (suc j) = length (f x) + before f xs j

pub flat_there : {A B : Type 0} (f : A → List B) (xs : List A) (j : ℕ) (x : A) (i : ℕ) (y : B) → slice_get xs j ≡ Some x → slice_get (f x) i ≡ Some y → slice_get (flat_map f xs) (before f xs j + i) ≡ Some y
flat_there f [] j x i y at got = absurd (cc)
flat_there f (z ∷ xs) zero x i y at got =
    ap (slice_get (flat_map f (z ∷ xs))) {x = 0 + i} {y = i} (omega arith) ∙ get_front (f z) (flat_map f xs) i y (ap (λ a. slice_get (f a) i) (some_same z x at) ∙ got)
flat_there f (z ∷ xs) (suc j) x i y at got =
    get_back (f z) (flat_map f xs) (length (f z) + before f xs j + i) (before f xs j + i) y (omega arith) (flat_there f xs j x i y at got)

-- a part, by its piece and its place there
pub record IsPart {A B : Type 0} (f : A → List B) (xs : List A) (n : ℕ) (y : B) : Type 0 where
  pub piece : ℕ
  pub whole : A
  pub at : slice_get xs piece ≡ Some whole
  pub place : ℕ
  pub is : n ≡ before f xs piece + place
  pub got : slice_get (f whole) place ≡ Some y

pub flat_back : {A B : Type 0} (f : A → List B) (xs : List A) (n : ℕ) (y : B) → slice_get (flat_map f xs) n ≡ Some y → IsPart f xs n y
flat_back f [] n y h = absurd (cc)
flat_back f (x ∷ xs) n y h = by (at_one (f x) (flat_map f xs) n y h) (λ m at. flat_back f xs m y at)
  where
    by : IsAt (f x) (flat_map f xs) n y → ((m : ℕ) → slice_get (flat_map f xs) m ≡ Some y → IsPart f xs m y) → IsPart f (x ∷ xs) n y
    by (in_first at) back = record { piece = 0; whole = x; at = refl; place = n; is = omega arith; got = at }
    by (in_second m apart at) back =
        let later = back m at in
        let there = later.is in
        record { piece = suc later.piece; whole = later.whole; at = later.at; place = later.place; is = omega (arith, apart, there); got = later.got }

-- each piece is as long as another one
pub as_long : {A B C D : Type 0} (f : A → List B) (g : C → List D) (xs : List A) (zs : List C) (j : ℕ) → ((i : ℕ) (x : A) (z : C) → slice_get xs i ≡ Some x → slice_get zs i ≡ Some z → length (f x) ≡ length (g z)) → length xs ≡ length zs →
    before f xs j ≡ before g zs j
as_long f g [] [] j same many = refl
as_long f g [] (z ∷ zs) j same many = absurd (cc)
as_long f g (x ∷ xs) [] j same many = absurd (cc)
as_long f g (x ∷ xs) (z ∷ zs) zero same many = refl
as_long f g (x ∷ xs) (z ∷ zs) (suc j) same many =
    let one = same 0 x z refl refl in
    let fewer : length xs ≡ length zs = cc in
    let later = as_long f g xs zs j (λ i a c at other. same (suc i) a c at other) fewer in
    omega (arith, one, later)

-- where a name stands first, if it stands once
pub placed_by : {A : Type 0} (name : A → List ℕ) (xs : List A) (i : ℕ) (x : A) → ((m : ℕ) (z : A) → slice_get xs m ≡ Some z → name z ≡ name x → m ≡ i) → slice_get xs i ≡ Some x → position (λ (z : A). bytes_eq (name x) (name z)) xs ≡ Some i
placed_by name [] i x alone at = absurd (cc)
placed_by name (z ∷ xs) zero x alone at =
    position_step (λ a. bytes_eq (name x) (name a)) z xs
    ∙ taken (bytes_eq (name x) (name z)) (Some 0) (option_map suc (position (λ a. bytes_eq (name x) (name a)) xs)) (same_bytes (name x) (name z) (ap name (sym (some_same z x at))))
placed_by name (z ∷ xs) (suc i) x alone at =
    position_step (λ a. bytes_eq (name x) (name a)) z xs
    ∙ skipped (bytes_eq (name x) (name z)) (Some 0) (option_map suc (position (λ a. bytes_eq (name x) (name a)) xs))
    (other_bytes (name x) (name z) (λ same. let zero_is : 0 ≡ suc i = alone 0 z refl (sym same) in let no : ⊥ = omega (arith, zero_is) in no))
    ∙ ap (option_map suc) (placed_by name xs i x (λ m a there same. let next = alone (suc m) a there same in omega (arith, next)) at)
