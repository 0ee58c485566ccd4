-- Places of elements in lists.
use Rattle.std.proofs.Common.{◌≡◌, refl, ap, sym, ◌∙◌, ℕ, suc, ◌+◌, Bool, true, false, List, [], ◌∷◌, ◌++◌, length, set, get_or, Option, Some, None, option_map, position, nat_lt, cond, if◌then◌else◌, arith}
use Rattle.std.proofs.lemmas.Iterator.Adapters.{position_from-zero}
use Rattle.std.proofs.lemmas.List.{length-set}
use Rattle.std.proofs.lemmas.List.Folds.{position_or_len-set}
use Rattle.std.specs.List.{position_from}
use Rattle.first_names.specs.FirstNames.{or_later}

-- the place of the first element that passes a test, by a walk over the list
abbrev pub place : {X : Type 0} → (X → Bool) → List X → Option ℕ
place p [] = None
place p (x ∷ xs) = if p x then Some 0 else option_map suc (place p xs)

later_by : (n : ℕ) (test : Bool) (found : Option ℕ) → (if test then Some n else option_map (λ k. n + 1 + k) found) ≡ option_map (λ k. n + k) (if test then Some 0 else option_map suc found)
later_by n true found = ap Some (let e : n ≡ n + 0 = omega arith in e)
later_by n false None = refl
later_by n false (Some k) = ap Some (let e : n + 1 + k ≡ n + suc k = omega arith in e)

from-place : {X : Type 0} (p : X → Bool) (n : ℕ) (xs : List X) → position_from p n xs ≡ option_map (λ k. n + k) (place p xs)
from-place p n [] = refl
from-place p n (x ∷ xs) = ap (λ found. if p x then Some n else found) (from-place p (n + 1) xs) ∙ later_by n (p x) (place p xs)

at_zero : (found : Option ℕ) → option_map (λ k. 0 + k) found ≡ found
at_zero None = refl
at_zero (Some k) = ap Some (let e : 0 + k ≡ k = omega arith in e)

pub position-place : {X : Type 0} (p : X → Bool) (xs : List X) → position p xs ≡ place p xs
position-place p xs = position_from-zero p xs ∙ from-place p 0 xs ∙ at_zero (place p xs)

push_by : (test last : Bool) (n : ℕ) (found : Option ℕ) →
    (if test then Some 0 else option_map suc (or_later found (if last then Some n else None))) ≡ or_later (if test then Some 0 else option_map suc found) (if last then Some (suc n) else None)
push_by true last n found = refl
push_by false last n (Some k) = refl
push_by false true n None = refl
push_by false false n None = refl

place-push : {X : Type 0} (p : X → Bool) (xs : List X) (y : X) → place p (xs ++ y ∷ []) ≡ or_later (place p xs) (if p y then Some (length xs) else None)
place-push p [] y = refl
place-push p (x ∷ xs) y = ap (λ found. if p x then Some 0 else option_map suc found) (place-push p xs y) ∙ push_by (p x) (p y) (length xs) (place p xs)

-- an element behind others
pub position-push : {X : Type 0} (p : X → Bool) (xs : List X) (y : X) → position p (xs ++ y ∷ []) ≡ or_later (position p xs) (if p y then Some (length xs) else None)
position-push p xs y =
    position-place p (xs ++ y ∷ []) ∙ place-push p xs y ∙ ap (λ found. or_later found (if p y then Some (length xs) else None)) (sym (position-place p xs))

-- an element in the place of one that passes the same tests
pub position-set : {X : Type 0} (p : X → Bool) (xs : List X) (i : ℕ) (y d : X) → p y ≡ p (get_or xs i d) → position p (set xs i y) ≡ position p xs
position-set p xs i y d same = λ k.
    cond (nat_lt (position_or_len-set p xs i y d same k) (length-set xs i y k)) (Some (position_or_len-set p xs i y d same k)) None
