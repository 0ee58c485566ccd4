-- The bounds of a dummy array as pure values, which a procedure keeps when it begins, and that they are the bounds that the call fixes.
-- ANSI X3.9-1978, sections 5.1.1, 5.1.2 and 5.5.1.
use Rattle.std.specs.List.{list_all}
use Rattle.std.specs.Prelude.{◌≡◌, ℤ, pos, nat_eq, Bool, true, false, not, ◌&&◌, ◌||◌, List, [], ◌∷◌, length, Option, Some, None, is_some, option_map, if◌then◌else◌}
use Rattle.std.specs.Ordering.{int_eq}
use Rattle.l_core.specs.f_tree.Values.{IsInt, Gives, in_range}
use Rattle.l_core.specs.f_tree.Terms.{Operator, Add, Subtract, Term, Val, Fetch, At, Before, Between}
use Rattle.l_core.specs.f_tree.Store.{Store}
use Rattle.l_core.specs.f_tree.Facts.{Dimension, Bounds, Attribute, Facts, Frame}
use Rattle.l_core.specs.f_tree.Valuing.{size_of_dimension}
use Rattle.l_core.specs.f_tree.Association.{dimension_by}
use Rattle.l_core.specs.Pures.{Pure, Constant, Load, Name, Prefixed, Operated, Temporaries, meant}

-- ## Pure values

-- a variable by its name
unfoldable pub place_pure : Term → Option Pure
place_pure (At x) = Some (Load (Name x))
place_pure t = None

unfoldable pub operated_pure : Operator → Option Pure → Option Pure → Option Pure
operated_pure op (Some p) (Some q) = Some (Operated op p q)
operated_pure op _ _ = None

-- the expression of a bound, over constants and variables (5.1.1.1); none where it takes a power or a function
unfoldable pub bound_pure : Term → Option Pure
bound_pure (Val (IsInt z)) = Some (Constant (IsInt z))
bound_pure (Fetch t) = place_pure t
bound_pure (Before op t) = option_map (Prefixed op) (bound_pure t)
bound_pure (Between op t u) = operated_pure op (bound_pure t) (bound_pure u)
bound_pure t = None

-- is it this constant
unfoldable pub is_written : ℤ → Pure → Bool
is_written z (Constant (IsInt n)) = int_eq n z
is_written z p = false

-- the size of a dimension by its bounds (5.1.2); from a lower bound of 1 it is the upper bound
unfoldable pub size_pure : Pure → Pure → Pure
size_pure lower upper = if is_written (pos 1) lower then upper else Operated Add (Operated Subtract upper lower) (Constant (IsInt (pos 1)))

-- ## Dummy arrays

-- an array has a dimension that is not constant (5.1.1.1)
unfoldable pub is_adjustable : Attribute → Bool
is_adjustable a = not (nat_eq (length a.bounds) (length a.dimensions))

-- both bounds of a dimension have pure values, where its upper one is written
unfoldable pub upper_is_pure : Option Term → Bool
upper_is_pure None = true
upper_is_pure (Some t) = is_some (bound_pure t)

unfoldable pub dimension_is_pure : Dimension → Bool
dimension_is_pure d = is_some (bound_pure d.lower) && upper_is_pure d.upper

-- no upper bound is assumed but that of the last dimension (5.1.2.2)
unfoldable pub only_last_assumes : List Dimension → Bool
only_last_assumes [] = true
only_last_assumes (d ∷ ds) = (is_some d.upper || nat_eq (length ds) 0) && only_last_assumes ds

-- the bounds of an array are not all constant, and each has a pure value, which a procedure can keep when it begins (5.5.1)
unfoldable pub has_adjustable_bounds : Attribute → Bool
has_adjustable_bounds a = is_adjustable a && (list_all dimension_is_pure a.dimensions && only_last_assumes a.dimensions)

-- ## What they are

-- the frame of a procedure before the bounds of its dummy arrays are known
abbrev pub without_bounds : Frame → Frame
without_bounds f = record f { dimensions = λ x. Some [] }

-- LAW
-- the lower bound that the call fixes, whatever the temporaries keep
abbrev pub LowersAreMeant : Type 0
LowersAreMeant = (c : Facts) (f : Frame) (kept : Temporaries) (s : Store) (d : Dimension) (b : Bounds) (lower : Pure) → dimension_by c f s d ≡ Gives b → bound_pure d.lower ≡ Some lower →
    meant c (without_bounds f) kept s lower ≡ Gives (IsInt b.lower)

-- the size of a dimension that has an upper bound, which has 32 bits
pub record IsSize (c : Facts) (f : Frame) (kept : Temporaries) (s : Store) (b : Bounds) (size : Pure) : Type 0 where
  pub last : ℤ
  pub upper : b.upper ≡ Some last
  pub is : meant c (without_bounds f) kept s size ≡ Gives (IsInt (pos (size_of_dimension b)))
  pub fits : in_range (pos (size_of_dimension b)) ≡ true

-- LAW
abbrev pub SizesAreMeant : Type 0
SizesAreMeant = (c : Facts) (f : Frame) (kept : Temporaries) (s : Store) (d : Dimension) (b : Bounds) (t : Term) (lower upper : Pure) → dimension_by c f s d ≡ Gives b → d.upper ≡ Some t →
    bound_pure d.lower ≡ Some lower → bound_pure t ≡ Some upper → IsSize c f kept s b (size_pure lower upper)

unfoldable pub kept_bounds_opened : Unit {0}
unfolding place_pure operated_pure bound_pure is_written size_pure is_adjustable upper_is_pure dimension_is_pure only_last_assumes has_adjustable_bounds
kept_bounds_opened = tt
