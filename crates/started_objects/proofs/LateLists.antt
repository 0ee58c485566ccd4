-- Lists of which the first elements are already as they are in the end.
use Rattle.std.proofs.Common.{◌≡◌, ℕ, zero, suc, ◌≤◌, List, [], ◌∷◌, map, length, replicate, Some, refl, ap, sym, ◌∙◌, arith}
use Rattle.std.specs.Prelude.{slice_get, slice_set}
use Rattle.std.proofs.lemmas.List.{length-map}
use Rattle.std.proofs.lemmas.Option.{same_Some}

-- so many of the first elements as they are in the end, and the others as they were
abbrev pub late_to : {A B : Type 0} → (A → B) → (A → B) → ℕ → List A → List B
late_to late early zero xs = map early xs
late_to late early (suc n) [] = []
late_to late early (suc n) (x ∷ xs) = late x ∷ late_to late early n xs

-- the next one is as it was
pub next-early : {A B : Type 0} (late early : A → B) (xs : List A) (i : ℕ) (x : A) → slice_get xs i ≡ Some x → slice_get (late_to late early i xs) i ≡ Some (early x)
next-early late early [] i x is = absurd (cc)
next-early late early (y ∷ xs) zero x is = ap (λ z. Some (early z)) (same_Some y x is)
next-early late early (y ∷ xs) (suc i) x is = next-early late early xs i x is

pub next-put : {A B : Type 0} (late early : A → B) (xs : List A) (i : ℕ) (x : A) → slice_get xs i ≡ Some x → slice_set (late_to late early i xs) i (late x) ≡ late_to late early (suc i) xs
next-put late early [] i x is = absurd (cc)
next-put late early (y ∷ xs) zero x is = ap (λ z. late z ∷ map early xs) (sym (same_Some y x is))
next-put late early (y ∷ xs) (suc i) x is = ap (λ zs. late y ∷ zs) (next-put late early xs i x is)

-- an element that does not change needs no store
pub next-same : {A B : Type 0} (late early : A → B) (xs : List A) (i : ℕ) (x : A) → slice_get xs i ≡ Some x → early x ≡ late x → late_to late early i xs ≡ late_to late early (suc i) xs
next-same late early [] i x is same = absurd (cc)
next-same late early (y ∷ xs) zero x is same = ap (λ z. z ∷ map early xs) (ap early (same_Some y x is) ∙ same ∙ ap late (sym (same_Some y x is)))
next-same late early (y ∷ xs) (suc i) x is same = ap (λ zs. late y ∷ zs) (next-same late early xs i x is same)

pub all-late : {A B : Type 0} (late early : A → B) (xs : List A) (n : ℕ) → length xs ≤ n → late_to late early n xs ≡ map late xs
all-late late early [] zero h = refl
all-late late early [] (suc n) h = refl
all-late late early (x ∷ xs) zero h = absurd (omega arith)
all-late late early (x ∷ xs) (suc n) h = ap (λ zs. late x ∷ zs) (all-late late early xs n (omega arith))

pub put-same : {A : Type 0} (xs : List A) (i : ℕ) (x : A) → slice_get xs i ≡ Some x → slice_set xs i x ≡ xs
put-same [] i x is = refl
put-same (y ∷ xs) zero x is = ap (λ z. z ∷ xs) (sym (same_Some y x is))
put-same (y ∷ xs) (suc i) x is = ap (λ zs. y ∷ zs) (put-same xs i x is)

pub put-get : {A : Type 0} (xs : List A) (i : ℕ) (x y : A) → slice_get xs i ≡ Some y → slice_get (slice_set xs i x) i ≡ Some x
put-get [] i x y is = absurd (cc)
put-get (z ∷ xs) zero x y is = refl
put-get (z ∷ xs) (suc i) x y is = put-get xs i x y is

pub length-late : {A B : Type 0} (late early : A → B) (n : ℕ) (xs : List A) → length (late_to late early n xs) ≡ length xs
length-late late early zero xs = length-map xs early
length-late late early (suc n) [] = refl
length-late late early (suc n) (x ∷ xs) = ap suc (length-late late early n xs)

pub all-same : {A : Type 0} (xs : List A) → map (λ x. x) xs ≡ xs
all-same [] = refl
all-same (x ∷ xs) = ap (λ zs. x ∷ zs) (all-same xs)

pub all-one : {A B : Type 0} (y : B) (xs : List A) → map (λ x. y) xs ≡ replicate (length xs) y
all-one y [] = refl
all-one y (x ∷ xs) = ap (λ zs. y ∷ zs) (all-one y xs)
