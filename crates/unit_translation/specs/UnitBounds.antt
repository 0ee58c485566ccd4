-- What a procedure keeps when it begins of its dummy arrays with adjustable bounds: of each dimension the lower bound, and the size where it has an upper
-- bound. ANSI X3.9-1978, sections 5.1.1, 5.1.2, 5.5.1 and 15.9.3; CSTR 149.
use Rattle.std.specs.List.{flat_map}
use Rattle.std.specs.Prelude.{ℕ, suc, List, [], ◌∷◌, ◌++◌, Option, Some, None, option_and_then, if◌then◌else◌}
use Rattle.main_translation.specs.f_tree.Values.{Bytes}
use Rattle.main_translation.specs.f_tree.Facts.{Dimension, Attribute, Formal, EntryPoint, ProgramUnit}
use Rattle.main_translation.specs.l_core.Pures.{Pure}
use Rattle.main_translation.specs.faithful.Signatures.{named_formals}
use Rattle.unit_sites.specs.procedure_emission.kept_bounds.KeptBounds.{bound_pure, size_pure, is_adjustable}
use Rattle.unit_sites.specs.unit_file.UnitFile.{LowerOf, SizeOf, KeptBound}

-- the lower bound of a dimension of an array, by its value
unfoldable pub lower_kept : Bytes → ℕ → Option Pure → List KeptBound
lower_kept x k None = []
lower_kept x k (Some p) = record { dummy = x; place = k; kind = LowerOf; value = p } ∷ []

-- its size, by both bounds
unfoldable pub size_kept : Bytes → ℕ → Option Pure → Option Pure → List KeptBound
size_kept x k (Some lower) (Some upper) = record { dummy = x; place = k; kind = SizeOf; value = size_pure lower upper } ∷ []
size_kept x k lower upper = []

unfoldable pub dimension_kept : Bytes → ℕ → Dimension → List KeptBound
dimension_kept x k d = lower_kept x k (bound_pure d.lower) ++ size_kept x k (bound_pure d.lower) (option_and_then bound_pure d.upper)

-- those of the dimensions of an array from one on
unfoldable pub dimensions_kept : Bytes → ℕ → List Dimension → List KeptBound
dimensions_kept x k [] = []
dimensions_kept x k (d ∷ ds) = dimension_kept x k d ++ dimensions_kept x (suc k) ds

unfoldable pub array_kept : Bytes → Attribute → List KeptBound
array_kept x a = if is_adjustable a then dimensions_kept x 0 a.dimensions else []

-- the dummies of a unit with one entry
unfoldable pub formals_in : List EntryPoint → List Formal
formals_in [] = []
formals_in (entry ∷ []) = entry.formals
formals_in (entry ∷ other ∷ later) = []

-- of all dummies of a unit, in their order
unfoldable pub bounds_kept : ProgramUnit → List KeptBound
bounds_kept unit = flat_map (λ x. array_kept x (unit.attribute x)) (named_formals (formals_in unit.entries))

unfoldable pub unit_bounds_opened : Unit {0}
unfolding lower_kept size_kept dimension_kept dimensions_kept array_kept formals_in bounds_kept
unit_bounds_opened = tt
