-- Classes that are given their first items one after another.
use Rattle.std.proofs.Common.{◌≡◌, ℕ, zero, suc, ◌+◌, ◌<◌, Bool, true, false, true≢false, is_some, List, [], ◌∷◌, ◌++◌, length, take, set, get_or, replicate, Option, Some, None, ◌⊎◌, inl, inr, arith, refl, sym, ap, subst, ◌∙◌}
use Rattle.std.specs.Bool.{OnTrue, OnFalse}
use Rattle.std.proofs.lemmas.List.{length-replicate}
use Rattle.offset_classes.specs.f_tree.Setting.{IsIn, first_in, later_in}
use Rattle.offset_classes.specs.declared.nodes.Place.{Place}
use Rattle.placed_numbers.specs.Owned.{owner_at, root_at, AreWithin, AreRooted, AreOwned, IsPut, HasOther, AreOwners, AreJoined}
use Rattle.placed_numbers.proofs.Lists.{in_at, taken, in_taken}

pub same_some : (i j : ℕ) → Some i ≡ Some j → i ≡ j
same_some i j e = ap (λ (o : Option ℕ). elim o [ None ↦ i | Some k ↦ k ]) e

none_some : (i : ℕ) → None ≡ Some i → ⊥
none_some i e = true≢false (sym (ap is_some e))

-- ONE FIRST ITEM
pub put_same : (os : List (Option ℕ)) (r f other : ℕ) (test : Bool) → owner_at os r ≡ Some other → OnTrue test (other ≡ f) → OnTrue test (IsPut os os r f)
put_same os r f other true is same = record {
  same_length = refl;
  itself = is ∙ ap Some same;
  elsewhere = λ q apart. refl;
  free = λ g h. same_some g other (sym h ∙ is) ∙ same;
}
put_same os r f other false is same = tt

pub put_other : (os : List (Option ℕ)) (r f other : ℕ) (test : Bool) → owner_at os r ≡ Some other → OnFalse test (other ≡ f → ⊥) → OnFalse test (HasOther os r f)
put_other os r f other true is apart = tt
put_other os r f other false is apart = record { other = other; is = is; apart = apart }

set_length : (os : List (Option ℕ)) (r : ℕ) (o : Option ℕ) → length (set os r o) ≡ length os
set_length [] r o = refl
set_length (p ∷ os) zero o = refl
set_length (p ∷ os) (suc r) o = ap suc (set_length os r o)

set_itself : (os : List (Option ℕ)) (r : ℕ) (o : Option ℕ) → r < length os → owner_at (set os r o) r ≡ o
set_itself [] r o h = absurd (let k : r < 0 = h in omega arith)
set_itself (p ∷ os) zero o h = refl
set_itself (p ∷ os) (suc r) o h = set_itself os r o (let k : suc r < suc (length os) = h in omega arith)

set_elsewhere : (os : List (Option ℕ)) (r q : ℕ) (o : Option ℕ) → (q ≡ r → ⊥) → owner_at (set os r o) q ≡ owner_at os q
set_elsewhere [] r q o apart = refl
set_elsewhere (p ∷ os) zero zero o apart = absurd (apart refl)
set_elsewhere (p ∷ os) zero (suc q) o apart = refl
set_elsewhere (p ∷ os) (suc r) zero o apart = refl
set_elsewhere (p ∷ os) (suc r) (suc q) o apart = set_elsewhere os r q o (λ e. apart (ap suc e))

pub put_new : (os : List (Option ℕ)) (r f : ℕ) → r < length os → owner_at os r ≡ None → IsPut os (set os r (Some f)) r f
put_new os r f h none = record {
  same_length = set_length os r (Some f);
  itself = set_itself os r (Some f) h;
  elsewhere = λ q apart. set_elsewhere os r q (Some f) apart;
  free = λ g is. absurd (none_some g (sym none ∙ is));
}

-- NONE YET
none_at : (n r : ℕ) → owner_at (replicate n None) r ≡ None
none_at zero r = refl
none_at (suc n) zero = refl
none_at (suc n) (suc r) = none_at n r

none_owned : (ps : List Place) → AreOwners ps [] (replicate (length ps) None)
none_owned ps = record {
  same_length = length-replicate (length ps) None;
  owned = λ f h. elim h [ ];
  firsts = λ r f h. absurd (none_some f (sym (none_at (length ps) r) ∙ h));
  rooted = λ r f h. absurd (none_some f (sym (none_at (length ps) r) ∙ h));
}

no_front : {A : Type 0} (xs : List A) → take 0 xs ≡ []
no_front [] = refl
no_front (x ∷ xs) = refl

pub owning_none : (ps : List Place) (fs : List ℕ) (os : List (Option ℕ)) → os ≡ replicate (length ps) None → AreOwners ps (take 0 fs) os
owning_none ps fs os none = subst (λ gs. AreOwners ps gs os) (sym (no_front fs)) (subst (λ qs. AreOwners ps [] qs) (sym none) (none_owned ps))

-- ONE MORE
in_front : {A : Type 0} (xs : List A) (x y : A) → IsIn y xs → IsIn y (xs ++ x ∷ [])
in_front [] x y h = elim h [ ]
in_front (_ ∷ xs) x y first_in = first_in
in_front (z ∷ xs) x y (later_in h) = later_in (in_front xs x y h)

in_last : {A : Type 0} (xs : List A) (x : A) → IsIn x (xs ++ x ∷ [])
in_last [] x = first_in
in_last (z ∷ xs) x = later_in (in_last xs x)

in_one_of : {A : Type 0} (xs : List A) (x y : A) → IsIn y (xs ++ x ∷ []) → IsIn y xs ⊎ (y ≡ x)
in_one_of [] x _ first_in = inr refl
in_one_of [] x y (later_in h) = elim h [ ]
in_one_of (_ ∷ xs) x _ first_in = inl first_in
in_one_of (z ∷ xs) x y (later_in h) = elim (in_one_of xs x y h) [ inl g ↦ inl (later_in g) | inr e ↦ inr e ]

same_or_apart : (q r : ℕ) → (q ≡ r) ⊎ (q ≡ r → ⊥)
same_or_apart zero zero = inl refl
same_or_apart zero (suc r) = inr (λ e. absurd (let k : 0 ≡ suc r = e in omega arith))
same_or_apart (suc q) zero = inr (λ e. absurd (let k : suc q ≡ 0 = e in omega arith))
same_or_apart (suc q) (suc r) = elim (same_or_apart q r) [
  | inl e ↦ inl (ap suc e)
  | inr apart ↦ inr (λ e. apart (let k : suc q ≡ suc r = e in omega arith))
]

module _ (ps : List Place) (gs : List ℕ) (os now : List (Option ℕ)) (f : ℕ) (are : AreOwners ps gs os) (put : IsPut os now (root_at ps f) f) where
  owned_still : (g : ℕ) → IsIn g gs → owner_at now (root_at ps g) ≡ Some g
  owned_still g h = elim (same_or_apart (root_at ps g) (root_at ps f)) [
    | inl same ↦ ap (owner_at now) same ∙ put.itself ∙ ap Some (sym (put.free g (ap (owner_at os) (sym same) ∙ are.owned g h)))
    | inr apart ↦ put.elsewhere (root_at ps g) apart ∙ are.owned g h
  ]

  owned_now : (g : ℕ) → IsIn g (gs ++ f ∷ []) → owner_at now (root_at ps g) ≡ Some g
  owned_now g h = elim (in_one_of gs f g h) [
    | inl before ↦ owned_still g before
    | inr same ↦ subst (λ k. owner_at now (root_at ps k) ≡ Some k) (sym same) put.itself
  ]

  first_now : (r g : ℕ) → owner_at now r ≡ Some g → IsIn g (gs ++ f ∷ [])
  first_now r g h = elim (same_or_apart r (root_at ps f)) [
    | inl same ↦ subst (λ k. IsIn k (gs ++ f ∷ [])) (same_some f g (sym put.itself ∙ ap (owner_at now) (sym same) ∙ h)) (in_last gs f)
    | inr apart ↦ in_front gs f g (are.firsts r g (sym (put.elsewhere r apart) ∙ h))
  ]

  rooted_now : (r g : ℕ) → owner_at now r ≡ Some g → root_at ps g ≡ r
  rooted_now r g h = elim (same_or_apart r (root_at ps f)) [
    | inl same ↦ ap (root_at ps) (sym (same_some f g (sym put.itself ∙ ap (owner_at now) (sym same) ∙ h))) ∙ sym same
    | inr apart ↦ are.rooted r g (sym (put.elsewhere r apart) ∙ h)
  ]

  own_more : AreOwners ps (gs ++ f ∷ []) now
  own_more = record { same_length = put.same_length ∙ are.same_length; owned = owned_now; firsts = first_now; rooted = rooted_now }

pub owning_more : (ps : List Place) (fs : List ℕ) (os now : List (Option ℕ)) (i f d : ℕ) → i < length fs → f ≡ get_or fs i d → AreOwners ps (take i fs) os
    → IsPut os now (root_at ps f) f → AreOwners ps (take (i + 1) fs) now
owning_more ps fs os now i f d h is are put = subst (λ gs. AreOwners ps gs now) (sym (taken fs i f d h is)) (own_more ps (take i fs) os now f are put)

-- TWO FIRST ITEMS in one class
pub owning_two : (ps : List Place) (fs : List ℕ) (os : List (Option ℕ)) (i f d : ℕ) → i < length fs → f ≡ get_or fs i d → AreOwners ps (take i fs) os
    → HasOther os (root_at ps f) f → AreJoined ps fs
owning_two ps fs os i f d h is are has = record {
  one = has.other;
  other = f;
  one_in = in_taken fs i has.other (are.firsts (root_at ps f) has.other has.is);
  other_in = in_at fs i f d h is;
  together = are.rooted (root_at ps f) has.other has.is;
  apart = λ e. has.apart (sym e);
}

-- what classes have are numbers
pub owned_within : (ps : List Place) (fs : List ℕ) (os : List (Option ℕ)) → AreWithin (length ps) fs → AreOwners ps fs os → AreOwned (length ps) os
owned_within ps fs os within are = record { each = λ r f h. within.each f (are.firsts r f h) }
