-- The places of what a list has.
use Rattle.std.specs.Prelude.{◌≡◌, ℕ, zero, suc, ◌+◌, ◌<◌, nat_lt, Bool, true, false, not, List, [], ◌∷◌, ◌++◌, map, length, position, Some, None, option_map, slice_get, bytes_eq, if◌then◌else◌}
use Rattle.std.specs.List.{position_or_len}
use Rattle.std.proofs.Common.{refl, sym, ap, ◌∙◌, arith}
use Rattle.std.proofs.lemmas.Bool.{ltb-true, ltb-false, lt-ltb, le-ltb}
use Rattle.std.proofs.lemmas.Slice.Eq.{bytes_eq-Decides}
use Rattle.linking_laws.specs.Linked.{AreDistinct, IsNone}

pub some_same : {A : Type 0} (a b : A) → Some a ≡ Some b → a ≡ b
some_same a b h = cc

pub get_front : {A : Type 0} (xs ys : List A) (i : ℕ) (x : A) → slice_get xs i ≡ Some x → slice_get (xs ++ ys) i ≡ Some x
get_front [] ys i x at = absurd (cc)
get_front (y ∷ xs) ys zero x at = at
get_front (y ∷ xs) ys (suc i) x at = get_front xs ys i x at

pub get_back : {A : Type 0} (xs ys : List A) (n i : ℕ) (x : A) → n ≡ length xs + i → slice_get ys i ≡ Some x → slice_get (xs ++ ys) n ≡ Some x
get_back [] ys n i x at got = ap (slice_get ys) {x = n} {y = i} (omega (arith, at)) ∙ got
get_back (y ∷ xs) ys zero i x at got = absurd (let no : ⊥ = omega (arith, at) in no)
get_back (y ∷ xs) ys (suc n) i x at got = get_back xs ys n i x (omega (arith, at)) got

pub map_at : {A B : Type 0} (f : A → B) (xs : List A) (i : ℕ) (x : A) → slice_get xs i ≡ Some x → slice_get (map f xs) i ≡ Some (f x)
map_at f [] i x at = absurd (cc)
map_at f (y ∷ xs) zero x at = ap Some (ap f (some_same y x at))
map_at f (y ∷ xs) (suc i) x at = map_at f xs i x at

pub within : {A : Type 0} (xs : List A) (i : ℕ) (x : A) → slice_get xs i ≡ Some x → i < length xs
within [] i x at = absurd (cc)
within (y ∷ xs) zero x at = omega arith
within (y ∷ xs) (suc i) x at = let less = within xs i x at in omega (arith, less)

pub some_at : {A : Type 0} (xs : List A) (i : ℕ) → i < length xs → (x : A) × (slice_get xs i ≡ Some x)
some_at [] i below = absurd (let no : ⊥ = omega (arith, below) in no)
some_at (x ∷ xs) zero below = (x, refl)
some_at (x ∷ xs) (suc i) below = some_at xs i (omega (arith, below))

-- a place in one of two lists
pub data IsAt {A : Type 0} (xs ys : List A) (i : ℕ) (x : A) : Type 0 where
  in_first : slice_get xs i ≡ Some x → IsAt xs ys i x
  in_second : (j : ℕ) → i ≡ length xs + j → slice_get ys j ≡ Some x → IsAt xs ys i x

at_later : {A : Type 0} (z : A) (xs ys : List A) (i : ℕ) (x : A) → IsAt xs ys i x → IsAt (z ∷ xs) ys (suc i) x
at_later z xs ys i x (in_first at) = in_first at
at_later z xs ys i x (in_second j there at) = in_second j (omega (arith, there)) at

pub at_one : {A : Type 0} (xs ys : List A) (i : ℕ) (x : A) → slice_get (xs ++ ys) i ≡ Some x → IsAt xs ys i x
at_one [] ys i x at = in_second i (omega arith) at
at_one (z ∷ xs) ys zero x at = in_first at
at_one (z ∷ xs) ys (suc i) x at = at_later z xs ys i x (at_one xs ys i x at)

pub distinct_later : (x : List ℕ) (xs : List (List ℕ)) → AreDistinct (x ∷ xs) → AreDistinct xs
distinct_later x xs distinct i j name one other = let same = distinct (suc i) (suc j) name one other in omega (arith, same)

pub none_later : (name x : List ℕ) (xs : List (List ℕ)) → IsNone name (x ∷ xs) → IsNone name xs
none_later name x xs none i at = none (suc i) at

-- ## Tests of bytes

pub told_apart : (t : Bool) → (t ≡ true → ⊥) → t ≡ false
told_apart true never = absurd (never refl)
told_apart false never = refl

pub other_bytes : (x y : List ℕ) → (x ≡ y → ⊥) → bytes_eq x y ≡ false
other_bytes x y other = told_apart (bytes_eq x y) (λ e. other ((bytes_eq-Decides x y).0 e))

pub same_bytes : (x y : List ℕ) → x ≡ y → bytes_eq x y ≡ true
same_bytes x y same = (bytes_eq-Decides x y).1 same

pub taken : {A : Type 0} (t : Bool) (a b : A) → t ≡ true → (if t then a else b) ≡ a
taken true a b h = refl
taken false a b h = absurd (cc)

pub skipped : {A : Type 0} (t : Bool) (a b : A) → t ≡ false → (if t then a else b) ≡ b
skipped true a b h = absurd (cc)
skipped false a b h = refl

-- the first of a list that has no name is another one, and so is the first before the place of a name
pub first_is_other : (name x : List ℕ) (xs : List (List ℕ)) → IsNone name (x ∷ xs) → bytes_eq name x ≡ false
first_is_other name x xs none = other_bytes name x (λ same. none 0 (ap Some (sym same)))

pub first_is_apart : (name x : List ℕ) (xs : List (List ℕ)) (i : ℕ) → AreDistinct (x ∷ xs) → slice_get xs i ≡ Some name → bytes_eq name x ≡ false
first_is_apart name x xs i distinct at =
    other_bytes name x (λ same. let zero_is : 0 ≡ suc i = distinct 0 (suc i) x refl (at ∙ ap Some same) in let no : ⊥ = omega (arith, zero_is) in no)

-- ## Positions

lt_more : (n m : ℕ) (b : Bool) → nat_lt n m ≡ b → nat_lt (1 + n) (suc m) ≡ b
lt_more n m true h = let less = ltb-true n m h in lt-ltb (1 + n) (suc m) (omega (arith, less))
lt_more n m false h = let more = ltb-false n m h in le-ltb (1 + n) (suc m) (omega (arith, more))

pub position_step : {A : Type 0} (test : A → Bool) (x : A) (xs : List A) → position test (x ∷ xs) ≡ (if test x then Some 0 else option_map suc (position test xs))
position_step test x xs = by (test x) (position_or_len test xs) (nat_lt (position_or_len test xs) (length xs)) refl
  where
    by : (t : Bool) (n : ℕ) (b : Bool) → nat_lt n (length xs) ≡ b →
        (if nat_lt (if not t then 1 + n else 0) (length (x ∷ xs)) then Some (if not t then 1 + n else 0) else None) ≡ (if t then Some 0 else option_map suc (if b then Some n else None))
    by true n b h = taken (nat_lt 0 (length (x ∷ xs))) (Some 0) None (lt-ltb 0 (suc (length xs)) (omega arith))
    by false n true h = taken (nat_lt (1 + n) (length (x ∷ xs))) (Some (1 + n)) None (lt_more n (length xs) true h) ∙ ap Some {x = 1 + n} {y = suc n} (omega arith)
    by false n false h = skipped (nat_lt (1 + n) (length (x ∷ xs))) (Some (1 + n)) None (lt_more n (length xs) false h)

pub position_front : (xs ys : List (List ℕ)) (k : ℕ) (name : List ℕ) → AreDistinct xs → slice_get xs k ≡ Some name → position (bytes_eq name) (xs ++ ys) ≡ Some k
position_front [] ys k name distinct at = absurd (cc)
position_front (x ∷ xs) ys zero name distinct at =
    position_step (bytes_eq name) x (xs ++ ys) ∙ taken (bytes_eq name x) (Some 0) (option_map suc (position (bytes_eq name) (xs ++ ys))) (same_bytes name x (sym (some_same x name at)))
position_front (x ∷ xs) ys (suc k) name distinct at =
    position_step (bytes_eq name) x (xs ++ ys) ∙ skipped (bytes_eq name x) (Some 0) (option_map suc (position (bytes_eq name) (xs ++ ys))) (first_is_apart name x xs k distinct at)
    ∙ ap (option_map suc) (position_front xs ys k name (distinct_later x xs distinct) at)

pub position_back : (name : List ℕ) (xs ys : List (List ℕ)) (k : ℕ) → IsNone name xs → position (bytes_eq name) ys ≡ Some k → position (bytes_eq name) (xs ++ ys) ≡ Some (length xs + k)
position_back name [] ys k none at = at ∙ ap Some {x = k} {y = 0 + k} (omega arith)
position_back name (x ∷ xs) ys k none at =
    position_step (bytes_eq name) x (xs ++ ys) ∙ skipped (bytes_eq name x) (Some 0) (option_map suc (position (bytes_eq name) (xs ++ ys))) (first_is_other name x xs none)
    ∙ ap (option_map suc) (position_back name xs ys k (none_later name x xs none) at) ∙ ap Some {x = suc (length xs + k)} {y = length (x ∷ xs) + k} (omega arith)
