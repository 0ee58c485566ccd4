-- Lists whose parts are told apart.
use Rattle.std.specs.Prelude.{◌≡◌, ◌≢◌, ℕ, zero, suc, Bool, true, false, List, [], ◌∷◌, ◌++◌, map, filter, cond, Some, slice_get}
use Rattle.std.proofs.Common.{refl, sym, ap, ◌∙◌, subst}
use Rattle.main_programs.specs.f_tree.Setting.{IsIn, first_in, later_in}
use Rattle.main_programs.specs.linking_laws.Linked.{AreDistinct, IsNone}
use Rattle.main_programs.proofs.linking_laws.Places.{some_same}

-- no part stands twice
pub data AreApart {A : Type 0} : List A → Type 0 where
  none_apart : AreApart []
  one_apart : {x : A} {xs : List A} → ((y : A) → IsIn y xs → x ≢ y) → AreApart xs → AreApart (x ∷ xs)

pub in_at : {A : Type 0} (xs : List A) (i : ℕ) (x : A) → slice_get xs i ≡ Some x → IsIn x xs
in_at [] i x at = absurd (cc)
in_at (y ∷ xs) zero x at = subst (λ z. IsIn z (y ∷ xs)) (some_same y x at) first_in
in_at (y ∷ xs) (suc i) x at = later_in (in_at xs i x at)

pub record StandsAt {A : Type 0} (xs : List A) (x : A) : Type 0 where
  pub index : ℕ
  pub at : slice_get xs index ≡ Some x

pub at_in : {A : Type 0} (x : A) (xs : List A) → IsIn x xs → StandsAt xs x
at_in x _ first_in = record { index = 0; at = refl }
at_in x _ (later_in o) = let found = at_in x _ o in record { index = suc found.index; at = found.at }

-- where a part of two lists stands
pub data InEither {A : Type 0} (x : A) (xs ys : List A) : Type 0 where
  in_one : IsIn x xs → InEither x xs ys
  in_other : IsIn x ys → InEither x xs ys

pub in_either : {A : Type 0} (x : A) (xs ys : List A) → IsIn x (xs ++ ys) → InEither x xs ys
in_either x [] ys o = in_other o
in_either x (y ∷ xs) ys first_in = in_one first_in
in_either x (y ∷ xs) ys (later_in o) = by (in_either x xs ys o)
  where
    by : InEither x xs ys → InEither x (y ∷ xs) ys
    by (in_one found) = in_one (later_in found)
    by (in_other found) = in_other found

pub record IsMapped {A B : Type 0} (f : A → B) (xs : List A) (y : B) : Type 0 where
  pub from : A
  pub among : IsIn from xs
  pub is : f from ≡ y

pub in_map : {A B : Type 0} (f : A → B) (xs : List A) (y : B) → IsIn y (map f xs) → IsMapped f xs y
in_map f [] y o = elim o [ ]
in_map f (x ∷ xs) _ first_in = record { from = x; among = first_in; is = refl }
in_map f (x ∷ xs) y (later_in o) = let found = in_map f xs y o in record { from = found.from; among = later_in found.among; is = found.is }

pub in_mapped : {A B : Type 0} (f : A → B) (x : A) (xs : List A) → IsIn x xs → IsIn (f x) (map f xs)
in_mapped f x _ first_in = first_in
in_mapped f x _ (later_in o) = later_in (in_mapped f x _ o)

pub apart_append : {A : Type 0} (xs ys : List A) → AreApart xs → AreApart ys → ((x y : A) → IsIn x xs → IsIn y ys → x ≢ y) → AreApart (xs ++ ys)
apart_append [] ys one other differ = other
apart_append (x ∷ xs) ys (one_apart none later) other differ =
    one_apart (λ y o. by y (in_either y xs ys o)) (apart_append xs ys later other (λ a b p q. differ a b (later_in p) q))
  where
    by : (y : _) → InEither y xs ys → x ≢ y
    by y (in_one o) = none y o
    by y (in_other o) = differ x y first_in o

pub apart_map : {A B : Type 0} (f : A → B) (xs : List A) → ((x y : A) → IsIn x xs → IsIn y xs → f x ≡ f y → x ≡ y) → AreApart xs → AreApart (map f xs)
apart_map f [] told none_apart = none_apart
apart_map f (x ∷ xs) told (one_apart none later) =
    one_apart
    (λ y o same. let found = in_map f xs y o in none found.from found.among (told x found.from first_in (later_in found.among) (same ∙ sym found.is)))
    (apart_map f xs (λ a b p q. told a b (later_in p) (later_in q)) later)

pub distinct_by : (names : List (List ℕ)) → AreApart names → AreDistinct names
distinct_by [] none_apart i j name at at' = absurd (cc)
distinct_by (x ∷ xs) (one_apart none later) zero zero name at at' = refl
distinct_by (x ∷ xs) (one_apart none later) zero (suc j) name at at' = absurd (none name (in_at xs j name at') (some_same x name at))
distinct_by (x ∷ xs) (one_apart none later) (suc i) zero name at at' = absurd (none name (in_at xs i name at) (some_same x name at'))
distinct_by (x ∷ xs) (one_apart none later) (suc i) (suc j) name at at' = ap suc (distinct_by xs later i j name at at')

pub none_by : (name : List ℕ) (names : List (List ℕ)) → ((other : List ℕ) → IsIn other names → name ≢ other) → IsNone name names
none_by name names differ i at = differ name (in_at names i name at) refl

-- a list of some parts of another, in its order
pub data IsPart {A : Type 0} : List A → List A → Type 0 where
  no_part : IsPart [] []
  left_out : {xs ys : List A} (y : A) → IsPart xs ys → IsPart xs (y ∷ ys)
  taken_too : {xs ys : List A} (y : A) → IsPart xs ys → IsPart (y ∷ xs) (y ∷ ys)

pub in_part : {A : Type 0} (x : A) (xs ys : List A) → IsPart xs ys → IsIn x xs → IsIn x ys
in_part x _ _ no_part o = elim o [ ]
in_part x xs _ (left_out y part) o = later_in (in_part x xs _ part o)
in_part x _ _ (taken_too _ part) first_in = first_in
in_part x _ _ (taken_too y part) (later_in o) = later_in (in_part x _ _ part o)

pub part_apart : {A : Type 0} (xs ys : List A) → IsPart xs ys → AreApart ys → AreApart xs
part_apart _ _ no_part apart = apart
part_apart xs _ (left_out y part) (one_apart none later) = part_apart xs _ part later
part_apart _ _ (taken_too y part) (one_apart none later) = one_apart (λ z o. none z (in_part z _ _ part o)) (part_apart _ _ part later)

pub part_map : {A B : Type 0} (f : A → B) (xs ys : List A) → IsPart xs ys → IsPart (map f xs) (map f ys)
part_map f _ _ no_part = no_part
part_map f xs _ (left_out y part) = left_out (f y) (part_map f xs _ part)
part_map f _ _ (taken_too y part) = taken_too (f y) (part_map f _ _ part)

part_rest : {A : Type 0} (b : Bool) (x : A) (some all : List A) → IsPart some all → IsPart (cond b (x ∷ some) some) (x ∷ all)
part_rest true x some all part = taken_too x part
part_rest false x some all part = left_out x part

pub filter_part : {A : Type 0} (test : A → Bool) (xs : List A) → IsPart (filter test xs) xs
filter_part test [] = no_part
filter_part test (x ∷ xs) = part_rest (test x) x (filter test xs) xs (filter_part test xs)
