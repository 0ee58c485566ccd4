-- Numbers that are found with no look at the other kinds of values.
use Rattle.std.specs.Prelude.{◌≡◌, ℤ, Option, Some, None, Ok}
use Rattle.c_tree.specs.declared.outcome.CValue.TheVariants.{Number, Pointer}
use Rattle.c_tree.specs.Access.{ToNumber}
use Rattle.c_tree.specs.Faults.{Or}
use Rattle.c_tree.specs.Objects.{Typed, Place, plain}
use Rattle.term_values.specs.declared.direct.NumberPlace.{NumberPlace}

-- a number that was found is the value; where none was found, nothing is said
abbrev pub Finds : Option ℤ → Or Typed → Type 0
Finds None value = Unit {0}
Finds (Some number) value = Ok (plain (Number number)) ≡ value

-- the pointer to a place of numbers
abbrev pub pointer_of : NumberPlace → Typed
pointer_of place = record { value = Pointer place.object place.offset; through = ToNumber }

abbrev pub FindsPlace : Option NumberPlace → Or Typed → Type 0
FindsPlace None value = Unit {0}
FindsPlace (Some place) value = Ok (pointer_of place) ≡ value

abbrev pub place_of_numbers : NumberPlace → Place
place_of_numbers place = record { at = Pointer place.object place.offset; access = ToNumber }

-- a place that was found is the one that is named; where none was found, nothing is said
abbrev pub IsNamed : Option NumberPlace → Or Place → Type 0
IsNamed None named = Unit {0}
IsNamed (Some place) named = Ok (place_of_numbers place) ≡ named
