-- The elements of dimensions, by their bounds. ANSI X3.9-1978, sections 5.1.1, 5.1.2 and 5.2.1.
use Rattle.std.specs.Prelude.{ℕ, ◌*◌, Bool, List, [], ◌∷◌, is_some}
use Rattle.f_tree.specs.Valuing.{size_of_dimension}
use Rattle.name_facts.specs.declared.fact.Bound.{Bound}
use Rattle.name_facts.specs.GivenFacts.{bounds_of}

-- the upper bound is constant, and not assumed at the call
unfoldable pub is_closed : Bound → Bool
is_closed b = is_some b.upper

-- the product of the sizes of the dimensions; it is 0 where an upper bound is assumed
unfoldable pub elements_in : List Bound → ℕ
elements_in [] = 1
elements_in (b ∷ bs) = size_of_dimension (bounds_of b) * elements_in bs
