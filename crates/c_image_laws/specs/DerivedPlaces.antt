-- Places that FORTRAN derives from another: an element, a substring, and the place of a value that is passed.
-- ANSI X3.9-1978, sections 5.4, 5.7 and 15.9.
use Rattle.std.specs.Prelude.{ℕ, ◌+◌, ◌-◌, ◌*◌, ◌<◌, ℤ, nat_abs, length}
use Rattle.c_image.specs.f_tree.Values.{Spot, Datum, IsText}
use Rattle.c_image.specs.f_tree.Store.{Sequence}
use Rattle.c_image.specs.f_tree.Association.{basic_of}
use Rattle.c_image.specs.World.{World}

-- the element so many elements further on
abbrev pub further_place : Spot → ℕ → Spot
further_place p n = record p { first = p.first + n * p.width; extent = p.extent - n * p.width }

-- the characters from one to another
abbrev pub cut_place : Spot → ℤ → ℤ → Spot
cut_place p from to = record p { first = p.first + (nat_abs from - 1); extent = p.extent + 1 - nat_abs from; width = nat_abs to + 1 - nat_abs from }

-- the sequence that is made for a value
abbrev pub value_place : World → Datum → Sequence → Spot
value_place μ d q = record { basic = basic_of d; sequence = μ.height; first = 0; extent = length q.cells; width = length q.cells }

-- a text has a character at least
abbrev pub HasCharacter : Datum → Type 0
HasCharacter (IsText cs) = 0 < length cs
HasCharacter other = Unit {0}
