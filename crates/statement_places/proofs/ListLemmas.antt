-- Lists that are walked through, and lists to which one element more is added.
use Rattle.std.proofs.Common.{◌≡◌, ℕ, zero, suc, ◌+◌, ◌<◌, ◌≤◌, Bool, true, if◌then◌else◌, List, [], ◌∷◌, ◌++◌, drop, drop-cons, get_or, length, map, Option, Some, None, refl, sym, ap, subst, ◌∙◌, arith}
use Rattle.std.specs.Prelude.{slice_get}

pub rest_is : {X : Type 0} (xs : List X) (i : ℕ) (x d : X) → i < length xs → x ≡ get_or xs i d → drop i xs ≡ x ∷ drop (i + 1) xs
rest_is xs i x d h is = drop-cons xs i d h ∙ ap (λ y. y ∷ drop (suc i) xs) (sym is) ∙ ap (λ n. x ∷ drop n xs) (let e : suc i ≡ i + 1 = omega arith in e)

-- what is said of each element, by its place, is said of one more
pub each_pushed : {X : Type 0} (P : ℕ → X → Type 0) (xs : List X) (i : ℕ) (x : X) → length xs ≡ i → ((k : ℕ) (y : X) → slice_get xs k ≡ Some y → P k y) → P i x
    → (k : ℕ) (y : X) → slice_get (xs ++ x ∷ []) k ≡ Some y → P k y
each_pushed P [] i x same known here zero y is = subst (λ k. P k y) (sym same) (subst (P i) (let e : x ≡ y = cc in e) here)
each_pushed P [] i x same known here (suc k) y is = absurd (cc)
each_pushed P (z ∷ xs) i x same known here zero y is = known zero y is
each_pushed P (z ∷ xs) zero x same known here (suc k) y is = absurd (let e : suc (length xs) ≡ 0 = same in omega (arith, e))
each_pushed P (z ∷ xs) (suc i) x same known here (suc k) y is =
    each_pushed (λ n w. P (suc n) w) xs i x (let e : suc (length xs) ≡ suc i = same in omega (arith, e)) (λ n w at. known (suc n) w at) here k y is

pub length_pushed : {X : Type 0} (xs : List X) (x : X) (i : ℕ) → length xs ≡ i → length (xs ++ x ∷ []) ≡ i + 1
length_pushed [] x i same = omega (arith, same)
length_pushed (y ∷ xs) x zero same = absurd (let e : suc (length xs) ≡ 0 = same in omega (arith, e))
length_pushed (y ∷ xs) x (suc i) same =
    let more = length_pushed xs x i (let e : suc (length xs) ≡ suc i = same in omega (arith, e)) in
    ap suc more ∙ (let e : suc (i + 1) ≡ suc i + 1 = omega arith in e)

-- an element, or none
pub by_option : {X : Type 0} (P : Type 0) (o : Option X) → ((x : X) → o ≡ Some x → P) → (o ≡ None → P) → P
by_option P (Some x) some none = some x refl
by_option P None some none = none refl

-- elements at one place of lists of one length
pub beside : {X Y : Type 0} (P : Type 0) (xs : List X) (ys : List Y) (k : ℕ) (x : X) → length ys ≡ length xs → slice_get xs k ≡ Some x → ((y : Y) → slice_get ys k ≡ Some y → P) → P
beside P [] ys k x same at some = absurd (cc)
beside P (z ∷ xs) [] k x same at some = absurd (let e : 0 ≡ suc (length xs) = same in omega (arith, e))
beside P (z ∷ xs) (y ∷ ys) zero x same at some = some y refl
beside P (z ∷ xs) (y ∷ ys) (suc k) x same at some = beside P xs ys k x (let e : suc (length ys) ≡ suc (length xs) = same in omega (arith, e)) at some

pub beside_none : {X Y : Type 0} (xs : List X) (ys : List Y) (k : ℕ) → length ys ≡ length xs → slice_get xs k ≡ None → slice_get ys k ≡ None
beside_none [] [] k same at = refl
beside_none [] (y ∷ ys) k same at = absurd (let e : suc (length ys) ≡ 0 = same in omega (arith, e))
beside_none (x ∷ xs) [] k same at = refl
beside_none (x ∷ xs) (y ∷ ys) zero same at = absurd (cc)
beside_none (x ∷ xs) (y ∷ ys) (suc k) same at = beside_none xs ys k (let e : suc (length ys) ≡ suc (length xs) = same in omega (arith, e)) at

pub past_of : {X : Type 0} (xs : List X) (k : ℕ) → slice_get xs k ≡ None → length xs ≤ k
past_of [] k at = omega arith
past_of (x ∷ xs) zero at = absurd (cc)
past_of (x ∷ xs) (suc k) at = let more = past_of xs k at in let e : suc (length xs) ≤ suc k = omega (arith, more) in e

-- an element of a list that is mapped
pub mapped_there : {X Y : Type 0} (P : Type 0) (f : X → Y) (xs : List X) (k : ℕ) (y : Y) → slice_get (map f xs) k ≡ Some y → ((x : X) → slice_get xs k ≡ Some x → f x ≡ y → P) → P
mapped_there P f [] k y at some = absurd (cc)
mapped_there P f (x ∷ xs) zero y at some = some x refl (let e : f x ≡ y = cc in e)
mapped_there P f (x ∷ xs) (suc k) y at some = mapped_there P f xs k y at some

pub mapped_length : {X Y : Type 0} (f : X → Y) (xs : List X) → length (map f xs) ≡ length xs
mapped_length f [] = refl
mapped_length f (x ∷ xs) = ap suc (mapped_length f xs)

-- none yet, and one more
pub each_none : {X : Type 0} (P : ℕ → X → Type 0) (xs : List X) → xs ≡ [] → (k : ℕ) (y : X) → slice_get xs k ≡ Some y → P k y
each_none P [] none k y is = absurd (cc)
each_none P (x ∷ xs) none k y is = absurd (cc)

pub each_more : {X : Type 0} (P : ℕ → X → Type 0) (xs after : List X) (i : ℕ) (x : X) → length xs ≡ i → after ≡ xs ++ x ∷ [] → ((k : ℕ) (y : X) → slice_get xs k ≡ Some y → P k y) → P i x
    → (k : ℕ) (y : X) → slice_get after k ≡ Some y → P k y
each_more P xs after i x same put known here k y is = each_pushed P xs i x same known here k y (ap (λ zs. slice_get zs k) (sym put) ∙ is)

pub one_longer : {X : Type 0} (xs after : List X) (x : X) (i : ℕ) → length xs ≡ i → after ≡ xs ++ x ∷ [] → length after ≡ i + 1
one_longer xs after x i same put = ap length put ∙ length_pushed xs x i same

-- what is read at a place is the element there
pub read_is : {X : Type 0} (xs : List X) (i : ℕ) (x d : X) → i < length xs → x ≡ get_or xs i d → slice_get xs i ≡ Some x
read_is [] i x d h is = absurd (omega (arith, h))
read_is (y ∷ xs) zero x d h is = ap Some (sym is)
read_is (y ∷ xs) (suc i) x d h is = read_is xs i x d (let e : suc i < suc (length xs) = h in omega (arith, e)) is

pub same_read : {X : Type 0} (xs : List X) (i : ℕ) (x y d : X) → i < length xs → x ≡ get_or xs i d → slice_get xs i ≡ Some y → x ≡ y
same_read xs i x y d h is at = let there = read_is xs i x d h is in cc

pub pushed_if : {X : Type 0} (xs after : List X) (x : X) (ok : Bool) → after ≡ (if ok then xs ++ x ∷ [] else xs) → ok ≡ true → after ≡ xs ++ x ∷ []
pushed_if xs after x ok put is = put ∙ ap (λ b. if b then xs ++ x ∷ [] else xs) is
