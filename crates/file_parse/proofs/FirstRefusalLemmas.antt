-- The first of the refusals of two lists.
use Rattle.std.specs.Prelude.{◌≡◌, ◌≤◌, List, [], ◌∷◌, ◌++◌, Option, Some, None}
use Rattle.std.proofs.Common.{refl, sym, ap, subst, arith}
use Rattle.std.proofs.lemmas.List.{append-nil}
use Rattle.f_tree.specs.declared.refusals.Refusal.{Refusal}
use Rattle.f_tree.specs.RefusalRows.{IsNotAfter}
use Rattle.f_tree.specs.RefusalRows.{number_of}
use Rattle.f_tree.specs.Setting.{IsIn, first_in, later_in}
use Rattle.file_parse.specs.FirstRefusals.{IsFirstAmong}

pub in_front : {A : Type 0} (x : A) (xs ys : List A) → IsIn x xs → IsIn x (xs ++ ys)
in_front x _ ys first_in = first_in
in_front x _ ys (later_in {as' = xs} is) = later_in (in_front x xs ys is)

pub in_back : {A : Type 0} (x : A) (xs ys : List A) → IsIn x ys → IsIn x (xs ++ ys)
in_back x [] ys is = is
in_back x (y ∷ xs) ys is = later_in (in_back x xs ys is)

pub data InOne {A : Type 0} (x : A) (xs ys : List A) : Type 0 where
  in_first : IsIn x xs → InOne x xs ys
  in_second : IsIn x ys → InOne x xs ys

one_more : {A : Type 0} (x y : A) (xs ys : List A) → InOne x xs ys → InOne x (y ∷ xs) ys
one_more x y xs ys (in_first is) = in_first (later_in is)
one_more x y xs ys (in_second is) = in_second is

pub in_either : {A : Type 0} (x : A) (xs ys : List A) → IsIn x (xs ++ ys) → InOne x xs ys
in_either x [] ys is = in_second is
in_either x (_ ∷ xs) ys first_in = in_first first_in
in_either x (y ∷ xs) ys (later_in is) = one_more x y xs ys (in_either x xs ys is)

pub not_after : (a b c : Refusal) → IsNotAfter a b → IsNotAfter b c → IsNotAfter a c
not_after a b c one other =
    let p : a.file ≤ b.file = one.file in
    let q : b.file ≤ c.file = other.file in
    record {
      file = omega arith;
      card = λ same. let s : b.file ≡ a.file = omega arith in let t : c.file ≡ b.file = omega arith in
          let u : a.card ≤ b.card = one.card s in let v : b.card ≤ c.card = other.card t in omega arith;
      number = λ same at. let s : b.file ≡ a.file = omega arith in let t : c.file ≡ b.file = omega arith in
          let u : a.card ≤ b.card = one.card s in let v : b.card ≤ c.card = other.card t in
          let w : number_of a.kind ≤ number_of b.kind = one.number s (omega arith) in
          let x : number_of b.kind ≤ number_of c.kind = other.number t (omega arith) in omega arith;
    }

same_place : (r q : Refusal) → r ≡ q → IsNotAfter r q
same_place r q same = record {
  file = let e = ap (λ (x : Refusal). x.file) same in omega arith;
  card = λ f. let e = ap (λ (x : Refusal). x.card) same in omega arith;
  number = λ f c. let e = ap (λ (x : Refusal). number_of x.kind) same in omega arith;
}

first_before : (r q : Refusal) (rows more : List Refusal) → IsFirstAmong rows (Some r) → IsFirstAmong more (Some q) → IsNotAfter r q →
    IsFirstAmong (rows ++ more) (Some r)
first_before r q rows more one other before =
    (in_front r rows more one.0, λ x is. either x (in_either x rows more is))
  where
    either : (x : Refusal) → InOne x rows more → IsNotAfter r x
    either x (in_first is) = one.1 x is
    either x (in_second is) = not_after r q x before (other.1 x is)

first_behind : (r q : Refusal) (rows more : List Refusal) → IsFirstAmong rows (Some r) → IsFirstAmong more (Some q) → IsNotAfter q r →
    IsFirstAmong (rows ++ more) (Some q)
first_behind r q rows more one other before =
    (in_back q rows more other.0, λ x is. either x (in_either x rows more is))
  where
    either : (x : Refusal) → InOne x rows more → IsNotAfter q x
    either x (in_first is) = not_after q r x before (one.1 x is)
    either x (in_second is) = other.1 x is

pub only_second : (other : Option Refusal) (rows more : List Refusal) → IsFirstAmong rows None → IsFirstAmong more other → IsFirstAmong (rows ++ more) other
only_second other rows more one is = subst (λ l. IsFirstAmong (l ++ more) other) (sym one) is

pub only_first : (one : Option Refusal) (rows more : List Refusal) → IsFirstAmong rows one → IsFirstAmong more None → IsFirstAmong (rows ++ more) one
only_first one rows more is other = subst (λ l. IsFirstAmong (rows ++ l) one) (sym other) (subst (λ l. IsFirstAmong l one) (sym (append-nil rows)) is)

pub first_is : (r q : Refusal) (rows more : List Refusal) → IsNotAfter r q → IsFirstAmong rows (Some r) → IsFirstAmong more (Some q) →
    IsFirstAmong (rows ++ more) (Some r)
first_is r q rows more before one other = first_before r q rows more one other before

pub second_is : (r q : Refusal) (rows more : List Refusal) → IsNotAfter q r → IsFirstAmong rows (Some r) → IsFirstAmong more (Some q) →
    IsFirstAmong (rows ++ more) (Some q)
second_is r q rows more before one other = first_behind r q rows more one other before

-- one alone
one_alone : (r q : Refusal) (rows : List Refusal) → rows ≡ [] → IsIn q (r ∷ rows) → IsNotAfter r q
one_alone r _ rows none first_in = same_place r r refl
one_alone r q _ none (later_in is) = absurd (nothing q (subst (λ l. IsIn q l) none is))
  where
    nothing : (x : Refusal) → IsIn x [] → ⊥
    nothing x h = elim h [ ]

pub first_alone : (r : Refusal) → IsFirstAmong (r ∷ []) (Some r)
first_alone r = (first_in, λ q is. one_alone r q [] refl is)
