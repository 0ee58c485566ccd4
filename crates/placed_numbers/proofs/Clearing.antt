-- First items without a number before them, each alone in its class.
use Rattle.std.proofs.Common.{◌≡◌, ℕ, ◌+◌, ◌<◌, ℤ, pos, ◌+ℤ◌, neg_ℤ, Bool, true, false, true≢false, List, [], ◌∷◌, length, get_or, Option, Some, None, inl, inr, arith, refl, sym, ap, subst, ◌∙◌}
use Rattle.std.specs.Prelude.{int_lt}
use Rattle.std.specs.Bool.{OnTrue, OnFalse}
use Rattle.std.proofs.lemmas.Int.{ints}
use Rattle.offset_classes.specs.f_tree.Setting.{IsIn}
use Rattle.offset_classes.specs.Forest.{IsApart, place_at}
use Rattle.offset_classes.specs.declared.nodes.Place.{Place}
use Rattle.placing_orders.specs.Numbered.{AreClear}
use Rattle.placed_numbers.specs.Owned.{owner_at, root_at, AreOwners, AreJoined, is_before, stands_before, IsAnyBefore, IsUnclear, runs_before, meets_other, IsClear}
use Rattle.placed_numbers.proofs.Lists.{all_below}
use Rattle.placed_numbers.proofs.Owning.{same_some}

-- DISTANCES
not_less : (a b d : ℤ) → b ≡ a +ℤ d → int_lt b a ≡ false → int_lt d (pos 0) ≡ false
not_less a b d e h = grind (arith, ints)

is_less : (a b d : ℤ) → b ≡ a +ℤ d → int_lt b a ≡ true → int_lt d (pos 0) ≡ true
is_less a b d e h = grind (arith, ints)

-- EACH PLACE is judged after those before it
pub behind_more : (ps : List Place) (os : List (Option ℕ)) (i : ℕ) → ((y : ℕ) → y < i → stands_before ps os (place_at ps y) ≡ false)
    → stands_before ps os (place_at ps i) ≡ false → (y : ℕ) → y < i + 1 → stands_before ps os (place_at ps y) ≡ false
behind_more ps os i before now = all_below (λ y. stands_before ps os (place_at ps y)) i before now

module _ (ps : List Place) (fs : List ℕ) (os : List (Option ℕ)) (are : AreOwners ps fs os) where
  -- ALL ARE BEHIND
  owner_of : (f y : ℕ) (d : ℤ) → IsIn f fs → IsApart ps f y d → owner_at os (root_at ps y) ≡ Some f
  owner_of f y d h apart = ap (owner_at os) (sym apart.together) ∙ are.owned f h

  behind_by : (f y : ℕ) (d : ℤ) → IsIn f fs → IsApart ps f y d → stands_before ps os (place_at ps y) ≡ false → int_lt d (pos 0) ≡ false
  unfolding stands_before is_before
  behind_by f y d h apart is =
      not_less (place_at ps f).offset (place_at ps y).offset d apart.apart
      (sym (ap (λ o. is_before ps (place_at ps y) o) (owner_of f y d h apart)) ∙ is)

  pub all_clear : ((y : ℕ) → y < length ps → stands_before ps os (place_at ps y) ≡ false) → AreClear (length ps) ps fs
  all_clear behind = record {
    behind = λ f y d h within apart. behind_by f y d h apart (behind y within);
    single = λ f y d h g apart. same_some y f (sym (are.owned y g) ∙ owner_of f y d h apart);
  }

  -- ONE IS BEFORE
  before_by : (y : ℕ) → y < length ps → (o : Option ℕ) → owner_at os (root_at ps y) ≡ o → is_before ps (place_at ps y) o ≡ true → IsUnclear ps fs
  unfolding is_before
  before_by y within None is h = absurd (true≢false (sym h))
  before_by y within (Some f) is h =
      let a = (place_at ps f).offset in
      let b = (place_at ps y).offset in
      let between : b ≡ a +ℤ (b +ℤ neg_ℤ a) = omega (arith, ints) in
      runs_before f y (b +ℤ neg_ℤ a) (are.firsts (root_at ps y) f is) within (record { together = are.rooted (root_at ps y) f is; apart = between })
      (is_less a b (b +ℤ neg_ℤ a) between h)

  pub one_before : IsAnyBefore ps os → IsUnclear ps fs
  unfolding stands_before
  one_before any = before_by any.number any.within (owner_at os (root_at ps any.number)) refl any.before

  pub clear_by : (test : Bool) → OnTrue test ((y : ℕ) → y < length ps → stands_before ps os (place_at ps y) ≡ false) → OnFalse test (IsAnyBefore ps os)
      → IsClear ps fs test
  clear_by true behind before = record { clear = all_clear behind; unclear = tt }
  clear_by false behind before = record { clear = tt; unclear = one_before before }

-- TWO FIRST ITEMS in one class
pub two_in_class : (ps : List Place) (fs : List ℕ) → AreJoined ps fs → IsUnclear ps fs
two_in_class ps fs two =
    let a = (place_at ps two.one).offset in
    let b = (place_at ps two.other).offset in
    meets_other two.one two.other (b +ℤ neg_ℤ a) two.one_in two.other_in (record { together = two.together; apart = omega (arith, ints) }) two.apart

pub not_clear : (ps : List Place) (fs : List ℕ) → AreJoined ps fs → IsClear ps fs false
not_clear ps fs two = record { clear = tt; unclear = two_in_class ps fs two }
