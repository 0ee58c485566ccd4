-- The type that a lowered value is given is the type of its datum. ANSI X3.9-1978, sections 4 and 6.
use Rattle.std.specs.Prelude.{◌≡◌, ℕ, List, Some}
use Rattle.c_emit.specs.f_tree.declared.names.Basic.{Basic}
use Rattle.c_emit.specs.f_tree.Values.{Bytes, Spot, Datum, IsSpot, Gives}
use Rattle.c_emit.specs.f_tree.Terms.{Function}
use Rattle.c_emit.specs.f_tree.Store.{Store}
use Rattle.c_emit.specs.f_tree.Facts.{Frame}
use Rattle.c_emit.specs.f_tree.Valuing.{whole, applied}
use Rattle.c_emit.specs.l_core.Pures.{Pure, Temporaries, meant}
use Rattle.c_emit.specs.Numbers.{Writing}
use Rattle.c_emit.specs.LibraryFunctions.{library_type}
use Rattle.c_emit.specs.Types.{HasType, type_of}

-- what the temporaries hold before a step is of the types that are said
abbrev pub AreTyped : Writing → ℕ → Temporaries → Type 0
AreTyped w n temporaries = (k : ℕ) (d : Datum) (basic : Basic) → temporaries k ≡ Some d → w.kind n k ≡ Some basic → HasType basic d

-- a place has the type of its name
abbrev pub PlacesAreTyped : Writing → Frame → Type 0
PlacesAreTyped w frame = (x : Bytes) (p : Spot) → whole w.facts frame x ≡ Gives (IsSpot p) → p.basic ≡ (w.facts.program.attribute x).basic

abbrev pub TypesAreRight : Type 0
TypesAreRight = (w : Writing) (n : ℕ) (frame : Frame) (temporaries : Temporaries) (s : Store) (p : Pure) (d : Datum) (basic : Basic) → PlacesAreTyped w frame → AreTyped w n temporaries →
    type_of w n p ≡ Some basic → meant w.facts frame temporaries s p ≡ Gives d → HasType basic d

-- and that of what a function of the library gives
abbrev pub LibraryTypesAreRight : Type 0
LibraryTypesAreRight = (f : Function) (ds : List Datum) (d : Datum) (basic : Basic) → library_type f ≡ Some basic → applied f ds ≡ Gives d → HasType basic d
