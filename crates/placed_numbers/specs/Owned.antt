-- The classes of numbers, each with the first item that stands in it, and what they say of contradictions and of blocks that are joined or
-- extended. ANSI X3.9-1978, sections 8.2.3, 8.3 and 17.1.
use Rattle.std.specs.Prelude.{◌≡◌, ℕ, ◌<◌, ℤ, pos, int_lt, Bool, true, false, List, length, slice_index_or, Option, Some, None}
use Rattle.std.specs.Bool.{OnTrue, OnFalse}
use Rattle.offset_classes.specs.f_tree.Values.{Bytes}
use Rattle.offset_classes.specs.f_tree.Setting.{IsIn}
use Rattle.offset_classes.specs.Standing.{Link}
use Rattle.offset_classes.specs.Forest.{IsApart, AreClasses, place_at}
use Rattle.offset_classes.specs.declared.nodes.Place.{Place}
use Rattle.declaration_rows.specs.PlacingRows.{Placing, contradicts, first_items, is_joined_or_extended}
use Rattle.placing_orders.specs.Numbered.{AreNumbered, AreSome, AreClear}
use Rattle.placed_numbers.specs.declared.judging.Standing.{Standing}
use Rattle.placed_numbers.specs.declared.judging.Standing.TheVariants.{Sound, JoinedOrExtended, Contradicted}

abbrev pub owner_at : List (Option ℕ) → ℕ → Option ℕ
owner_at os r = slice_index_or os r None

abbrev pub root_at : List Place → ℕ → ℕ
root_at ps x = (place_at ps x).root

-- numbers below a bound
pub record AreWithin (n : ℕ) (fs : List ℕ) : Type 0 where
  pub each : (f : ℕ) → IsIn f fs → f < n

-- the root of each number is a number
pub record AreRooted (ps : List Place) : Type 0 where
  pub each : (x : ℕ) → x < length ps → root_at ps x < length ps

-- what each class has is a number
pub record AreOwned (n : ℕ) (os : List (Option ℕ)) : Type 0 where
  pub each : (r f : ℕ) → owner_at os r ≡ Some f → f < n

-- a class has a first item now, and had no other one
pub record IsPut (os now : List (Option ℕ)) (r f : ℕ) : Type 0 where
  pub same_length : length now ≡ length os
  pub itself : owner_at now r ≡ Some f
  pub elsewhere : (q : ℕ) → (q ≡ r → ⊥) → owner_at now q ≡ owner_at os q
  pub free : (g : ℕ) → owner_at os r ≡ Some g → g ≡ f

-- a class has another first item
pub record HasOther (os : List (Option ℕ)) (r f : ℕ) : Type 0 where
  pub other : ℕ
  pub is : owner_at os r ≡ Some other
  pub apart : other ≡ f → ⊥

-- each class has the one first item that stands in it
pub record AreOwners (ps : List Place) (fs : List ℕ) (os : List (Option ℕ)) : Type 0 where
  pub same_length : length os ≡ length ps
  pub owned : (f : ℕ) → IsIn f fs → owner_at os (root_at ps f) ≡ Some f
  pub firsts : (r f : ℕ) → owner_at os r ≡ Some f → IsIn f fs
  pub rooted : (r f : ℕ) → owner_at os r ≡ Some f → root_at ps f ≡ r

-- two first items stand in one class
pub record AreJoined (ps : List Place) (fs : List ℕ) : Type 0 where
  pub one : ℕ
  pub other : ℕ
  pub one_in : IsIn one fs
  pub other_in : IsIn other fs
  pub together : root_at ps one ≡ root_at ps other
  pub apart : other ≡ one → ⊥

-- a place before that of the first item of its class
unfoldable pub is_before : List Place → Place → Option ℕ → Bool
is_before ps p None = false
is_before ps p (Some f) = int_lt p.offset (place_at ps f).offset

unfoldable pub stands_before : List Place → List (Option ℕ) → Place → Bool
stands_before ps os p = is_before ps p (owner_at os p.root)

pub record IsAnyBefore (ps : List Place) (os : List (Option ℕ)) : Type 0 where
  pub number : ℕ
  pub within : number < length ps
  pub before : stands_before ps os (place_at ps number) ≡ true

-- a first item has a number before it, or another first item in its class
pub data IsUnclear (ps : List Place) (fs : List ℕ) : Type 0 where
  runs_before : (f y : ℕ) (d : ℤ) → IsIn f fs → y < length ps → IsApart ps f y d → int_lt d (pos 0) ≡ true → IsUnclear ps fs
  meets_other : (f y : ℕ) (d : ℤ) → IsIn f fs → IsIn y fs → IsApart ps f y d → (y ≡ f → ⊥) → IsUnclear ps fs

pub record IsClear (ps : List Place) (fs : List ℕ) (test : Bool) : Type 0 where
  pub clear : OnTrue test (AreClear (length ps) ps fs)
  pub unclear : OnFalse test (IsUnclear ps fs)

-- what is said of the places of numbers
unfoldable pub HavePlaces : List Place → List ℕ → Standing → Type 0
HavePlaces ps fs (Sound qs) = (qs.items ≡ ps) × AreClear (length ps) ps fs
HavePlaces ps fs JoinedOrExtended = IsUnclear ps fs
HavePlaces ps fs Contradicted = ⊥

-- what is said of equations between numbers: of those between names too, whatever names the numbers stand for
pub record IsSound (n : ℕ) (ls : List (Link ℕ)) (fs : List ℕ) (ps : List Place) : Type 0 where
  pub classes : AreClasses n ls ps
  pub clear : AreClear n ps fs

pub record IsPlacing (n : ℕ) (ls : List (Link ℕ)) (fs : List ℕ) (name : ℕ → Bytes) (p : Placing) : Type 0 where
  pub numbered : AreNumbered n name ls p.equations
  pub firsts : AreSome n name fs (first_items p.blocks)

pub record AreTests (p : Placing) (c j : Bool) : Type 0 where
  pub wrong : contradicts p.equations ≡ c
  pub joined : c ≡ false → is_joined_or_extended p ≡ j

unfoldable pub tests_of : Placing → Standing → Type 0
tests_of p (Sound ps) = AreTests p false false
tests_of p JoinedOrExtended = AreTests p false true
tests_of p Contradicted = AreTests p true false

unfoldable pub places_of : ℕ → List (Link ℕ) → List ℕ → Standing → Type 0
places_of n ls fs (Sound ps) = IsSound n ls fs ps.items
places_of n ls fs _ = Unit {0}

pub record SayOf (n : ℕ) (ls : List (Link ℕ)) (fs : List ℕ) (s : Standing) : Type 0 where
  pub tests : (name : ℕ → Bytes) (p : Placing) → IsPlacing n ls fs name p → tests_of p s
  pub places : places_of n ls fs s
