-- The dimensions of an array. ANSI X3.9-1978, sections 5.1.1, 5.1.2 and 5.2.1.
use Rattle.std.specs.Prelude.{nat_eq, nat_le, Bool, true, ◌&&◌, ◌||◌, List, [], ◌∷◌, length}
use Rattle.f_tree.specs.Valuing.{size_of_dimension}
use Rattle.name_facts.specs.declared.fact.Bound.{Bound}
use Rattle.name_facts.specs.Dimensions.{is_closed}
use Rattle.name_facts.specs.GivenFacts.{bounds_of}
use Rattle.plain_forms.specs.PlainUnits.{bound_fits}

-- no upper bound is assumed but that of the last dimension
unfoldable pub only_last_is_open : List Bound → Bool
only_last_is_open [] = true
only_last_is_open (b ∷ bs) = (is_closed b || nat_eq (length bs) 0) && only_last_is_open bs

-- a dimension has an element
unfoldable pub has_length : Bound → Bool
has_length b = nat_le 1 (size_of_dimension (bounds_of b))

-- the size of a dimension has 32 bits
unfoldable pub fits : Bound → Bool
fits b = bound_fits (bounds_of b)
