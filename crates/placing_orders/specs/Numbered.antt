-- Names by numbers: the equations between names as equations between their numbers, and when no block is joined or extended, told of the places
-- of numbers. ANSI X3.9-1978, sections 8.2.3, 8.3 and 17.1.
use Rattle.std.specs.Prelude.{◌≡◌, ℕ, ◌<◌, ℤ, pos, int_lt, false, List}
use Rattle.placing_laws.specs.f_tree.Values.{Bytes}
use Rattle.placing_laws.specs.f_tree.Setting.{IsIn}
use Rattle.placing_laws.specs.declaration_rows.PlacingRows.{Equation}
use Rattle.placing_laws.specs.offset_classes.Standing.{Link, AreBelow}
use Rattle.placing_laws.specs.offset_classes.Forest.{IsApart}
use Rattle.placing_laws.specs.offset_classes.declared.nodes.Place.{Place}

-- an equation between numbers, as one between names
abbrev pub named : (ℕ → Bytes) → Link ℕ → Equation
named name l = record { one = name l.one; other = name l.other; by = l.by }

pub record HasLink (name : ℕ → Bytes) (ls : List (Link ℕ)) (e : Equation) : Type 0 where
  pub link : Link ℕ
  pub is_in : IsIn link ls
  pub is : e ≡ named name link

-- each number below a bound is a name of its own, and the equations are the same, in whatever order
pub record AreNumbered (n : ℕ) (name : ℕ → Bytes) (ls : List (Link ℕ)) (es : List Equation) : Type 0 where
  pub below : AreBelow n ls
  pub apart : (i j : ℕ) → i < n → j < n → name i ≡ name j → i ≡ j
  pub named_so : (l : Link ℕ) → IsIn l ls → IsIn (named name l) es
  pub numbered : (e : Equation) → IsIn e es → HasLink name ls e

pub record HasNumber (n : ℕ) (name : ℕ → Bytes) (fs : List ℕ) (x : Bytes) : Type 0 where
  pub number : ℕ
  pub within : number < n
  pub is_in : IsIn number fs
  pub is : x ≡ name number

-- some names by their numbers
pub record AreSome (n : ℕ) (name : ℕ → Bytes) (fs : List ℕ) (xs : List Bytes) : Type 0 where
  pub within : (f : ℕ) → IsIn f fs → f < n
  pub named_so : (f : ℕ) → IsIn f fs → IsIn (name f) xs
  pub numbered : (x : Bytes) → IsIn x xs → HasNumber n name fs x

-- no number stands before a first item, and no two first items stand in one class
pub record AreClear (n : ℕ) (ps : List Place) (fs : List ℕ) : Type 0 where
  pub behind : (f y : ℕ) (d : ℤ) → IsIn f fs → y < n → IsApart ps f y d → int_lt d (pos 0) ≡ false
  pub single : (f y : ℕ) (d : ℤ) → IsIn f fs → IsIn y fs → IsApart ps f y d → y ≡ f
