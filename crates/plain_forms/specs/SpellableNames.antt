-- What C asks besides of the names of a main program: a name begins with a letter, and an array has an element. ANSI X3.9-1978, section 5.1; C89, 3.5.
use Rattle.std.specs.List.{list_all}
use Rattle.std.specs.Prelude.{ℕ, nat_le, Bool, false, ◌&&◌, Option, Some, None}
use Rattle.lowering_laws.specs.f_tree.Facts.{Member, ProgramUnit}
use Rattle.lowering_laws.specs.f_tree.Valuing.{elements_of}
use Rattle.main_translation.specs.c_tree.Tokens.{begins_with, is_letter}

-- an element is known to be there
unfoldable pub has_element : Option ℕ → Bool
has_element None = false
has_element (Some n) = nat_le 1 n

-- a name begins with a letter, and is that of something
unfoldable pub is_spellable_name : ProgramUnit → Member → Bool
is_spellable_name unit m = begins_with is_letter m.name && has_element (elements_of (unit.attribute m.name).bounds)

-- what C asks besides of the names of a program
unfoldable pub is_spellable : ProgramUnit → Bool
is_spellable unit = list_all (is_spellable_name unit) unit.stored
