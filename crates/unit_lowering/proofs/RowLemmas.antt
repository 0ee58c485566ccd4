-- What is made of a row from its end is what is made of it from its front.
use Rattle.std.proofs.Common.{◌≡◌, ℕ, zero, suc, ◌+◌, List, [], ◌∷◌, length, slice_get, Some, sym, ap, ◌∙◌, refl, arith}
use Rattle.unit_lowering.specs.Rows.{joined}

-- what some of a row make together from a place on
unfoldable pub joined_from : {A : Type 0} → (A → A → A) → A → (ℕ → A) → ℕ → ℕ → A
joined_from join none each i zero = none
joined_from join none each i (suc n) = join (each i) (joined_from join none each (suc i) n)

module _ {A : Type 0} (join : A → A → A) (none : A) (left : (a : A) → join none a ≡ a) (right : (a : A) → join a none ≡ a)
    (along : (a b c : A) → join (join a b) c ≡ join a (join b c)) where
  joined_last : (each : ℕ → A) (i n : ℕ) → joined_from join none each i (suc n) ≡ join (joined_from join none each i n) (each (i + n))
  unfolding joined_from
  joined_last each i zero = right (each i) ∙ sym (left (each i)) ∙ ap (λ k. join none (each k)) (let e : i ≡ i + 0 = omega arith in e)
  joined_last each i (suc n) =
      ap (join (each i)) (joined_last each (suc i) n) ∙ sym (along (each i) (joined_from join none each (suc i) n) (each (suc i + n)))
      ∙ ap (λ k. join (join (each i) (joined_from join none each (suc i) n)) (each k)) (let e : suc i + n ≡ i + suc n = omega arith in e)

  pub joined_is : (each : ℕ → A) (n : ℕ) → joined join none each n ≡ joined_from join none each 0 n
  unfolding joined joined_from
  joined_is each zero = refl
  joined_is each (suc n) =
      ap (λ a. join a (each n)) (joined_is each n) ∙ ap (λ k. join (joined_from join none each 0 n) (each k)) (let e : n ≡ 0 + n = omega arith in e)
      ∙ sym (joined_last each 0 n)

-- a recursion over a list joins what its elements give
module _ {X A : Type 0} (join : A → A → A) (none : A) (each : ℕ → A) (all : ℕ → List X → A) (here : ℕ → X → A) where
  pub joined_all : ((i : ℕ) → all i [] ≡ none) → ((i : ℕ) (x : X) (xs : List X) → all i (x ∷ xs) ≡ join (here i x) (all (suc i) xs))
      → (i : ℕ) (xs : List X) → ((k : ℕ) (x : X) → slice_get xs k ≡ Some x → each (i + k) ≡ here (i + k) x) → joined_from join none each i (length xs) ≡ all i xs
  unfolding joined_from
  joined_all end more i [] same = sym (end i)
  joined_all end more i (x ∷ xs) same =
      ap (λ a. join a (joined_from join none each (suc i) (length xs)))
      (ap each (let e : i ≡ i + 0 = omega arith in e) ∙ same 0 x refl ∙ ap (λ k. here k x) (let e : i + 0 ≡ i = omega arith in e))
      ∙ ap (join (here i x)) (joined_all end more (suc i) xs
      (λ k y is. ap each (let e : suc i + k ≡ i + suc k = omega arith in e) ∙ same (suc k) y is ∙ ap (λ j. here j y) (let e : i + suc k ≡ suc i + k = omega arith in e)))
      ∙ sym (more i x xs)

-- one more of a row
pub joined_more : {A : Type 0} (join : A → A → A) (none : A) (each : ℕ → A) (i : ℕ) → joined join none each (i + 1) ≡ join (joined join none each i) (each i)
unfolding joined
joined_more join none each i = ap (joined join none each) (let e : i + 1 ≡ suc i = omega arith in e)

pub joined_none : {A : Type 0} (join : A → A → A) (none : A) (each : ℕ → A) → joined join none each 0 ≡ none
unfolding joined
joined_none join none each = refl
