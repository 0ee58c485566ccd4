-- The values of the arguments of a call (C89, 3.3.2.2).
use Rattle.std.specs.Prelude.{ℕ, zero, suc, List, [], ◌∷◌, unwrap_or, slice_get}
use Rattle.c_tree.specs.declared.outcome.CValue.{CValue}
use Rattle.c_tree.specs.declared.outcome.CValue.TheVariants.{Null}

-- the value at a place, and null where there is none
abbrev pub argument : List CValue → ℕ → CValue
argument values place = unwrap_or (slice_get values place) Null

-- so many values from a place on
abbrev pub front : ℕ → ℕ → List CValue → List CValue
front zero place values = []
front (suc count) place values = argument values place ∷ front count (suc place) values
