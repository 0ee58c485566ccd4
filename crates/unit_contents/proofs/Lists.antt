-- Lists, and walks over them.
use Rattle.std.specs.Prelude.{◌≡◌, ℕ, zero, suc, Bool, ◌||◌, List, [], ◌∷◌, ◌++◌, map, ◌+◌, ◌<◌, ◌≤◌, Option, Some, None, slice_get, length, Result, Ok, Err, OnOk}
use Rattle.std.specs.List.{list_any}
use Rattle.std.specs.Option.{option_flatten}
use Rattle.std.proofs.Common.{refl, ap, ◌∙◌, take, drop, get_or, ⊎_elim, arith}
use Rattle.std.proofs.lemmas.Bool.{cases_lt}
use Rattle.std.proofs.lemmas.List.{take_at, length_push, get_or_append_left, get_or_push}

pub list_any-map : {X Y : Type 0} (p : Y → Bool) (f : X → Y) (xs : List X) → list_any p (map f xs) ≡ list_any (λ x. p (f x)) xs
list_any-map p f [] = refl
list_any-map p f (x ∷ xs) = ap (λ b. p (f x) || b) (list_any-map p f xs)

-- what a write to all of a list leaves
pub written_whole : {X : Type 0} (xs ys : List X) (n : ℕ) → n ≡ length xs → length ys ≡ length xs → take n (ys ++ drop (length ys) xs) ≡ ys
written_whole xs ys n all same = take_at ys (drop (length ys) xs) n (omega arith)

-- ## A list with one element more

pub pushed_before : {X : Type 0} (xs : List X) (y : X) (n : ℕ) → n < length xs → slice_get (xs ++ y ∷ []) n ≡ slice_get xs n
pushed_before [] y n h = absurd (omega arith)
pushed_before (x ∷ xs) y zero h = refl
pushed_before (x ∷ xs) y (suc n) h = pushed_before xs y n (omega arith)

pub pushed_here : {X : Type 0} (xs : List X) (y : X) (n : ℕ) → n ≡ length xs → slice_get (xs ++ y ∷ []) n ≡ Some y
pushed_here [] y zero here = refl
pushed_here [] y (suc n) here = absurd (omega arith)
pushed_here (x ∷ xs) y zero here = absurd (omega arith)
pushed_here (x ∷ xs) y (suc n) here = pushed_here xs y n (omega arith)

-- what is so of each element of a list, and of one more
pub pushed_same : {X : Type 0} (F : ℕ → X) (d : X) (xs : List X) (y : X) (ys : List X) (i : ℕ) → ys ≡ xs ++ y ∷ [] → length xs ≡ i
    → ((n : ℕ) → n < length xs → get_or xs n d ≡ F n) → y ≡ F i → (n : ℕ) → n < length ys → get_or ys n d ≡ F n
pushed_same F d xs y ys i put size known is n h =
    let longer : length ys ≡ length xs + 1 = ap length put ∙ length_push xs y in
    ap (λ zs. get_or zs n d) put
    ∙ ⊎_elim (λ (low : n < length xs). get_or_append_left xs (y ∷ []) d n low ∙ known n low)
    (λ (high : length xs ≤ n).
    let here : length xs ≡ n = omega (arith, longer, h) in
    get_or_push xs y d n here ∙ is ∙ ap F (let e : i ≡ n = omega (arith, here, size) in e))
    (cases_lt n (length xs))

pub flat_read : {X : Type 0} (xs : List (Option X)) (n : ℕ) → option_flatten (slice_get xs n) ≡ get_or xs n None
flat_read [] n = refl
flat_read (x ∷ xs) zero = refl
flat_read (x ∷ xs) (suc n) = flat_read xs n

-- ## What follows from the clause of a call

pub then_ok : {A E : Type 0} (P Q : Type 0) (r : Result A E) → (P → Q) → OnOk r P → OnOk r Q
then_ok P Q (Ok x) step h = step h
then_ok P Q (Err e) step h = h
