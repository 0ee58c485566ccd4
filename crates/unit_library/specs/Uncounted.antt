-- Where 64 bits do not tell what is to be counted (ANSI X3.9-1978, 12.2.4).
use Rattle.std.specs.Prelude.{ℤ, ◌^◌, ◌≤◌, List}
use Rattle.f2c_outside.specs.Table.{Row}
use Rattle.f2c_outside.specs.Meaning.{units_of}
use Rattle.listed_input.specs.Fetching.{position_of}

-- a unit stands behind 2^53 records or more
abbrev pub IsFarBehind : ℤ → List Row → Type 0
IsFarBehind unit rows = 2 ^ 53 ≤ position_of unit (units_of rows)
