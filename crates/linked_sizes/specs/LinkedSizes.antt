-- The bytes of what the functions of program units have, and that the objects of their linked files have no more. C89, 3.1.2.4, 3.1.2.5, 3.1.4 and 3.5.7.
use Rattle.std.specs.Prelude.{ℕ, ◌+◌, ◌*◌, ◌≤◌, List, [], ◌∷◌, length, Option, Some, None}
use Rattle.main_file.specs.c_tree.FlatForm.{whole_body}
use Rattle.main_file.specs.c_tree.Linking.{program, bytes_of_objects}
use Rattle.built_strings.specs.BuiltStrings.{texts_bytes}
use Rattle.unit_sites.specs.unit_file.UnitFile.{Variable, WrittenUnit, frame_count}
use Rattle.unit_sites.specs.UnitSites.{UnitsOfFile, files_of}

-- a number, or the numbers of an array
unfoldable pub count_bytes : Option ℕ → ℕ
count_bytes None = 4
count_bytes (Some count) = 4 * count

unfoldable pub variables_bytes : List Variable → ℕ
variables_bytes [] = 0
variables_bytes (v ∷ later) = count_bytes v.count + variables_bytes later

-- a function: its variables and arrays, the strings of its statements, its parameters, its result, its temporaries and what it keeps of its dummy
-- arrays
unfoldable pub unit_bytes : WrittenUnit → ℕ
unit_bytes w = variables_bytes w.inventory.variables + (texts_bytes (whole_body w.body).items.strings + 4 * frame_count w.inventory)

unfoldable pub units_bytes : List WrittenUnit → ℕ
units_bytes [] = 0
units_bytes (w ∷ later) = unit_bytes w + units_bytes later

-- files, with their constants
unfoldable pub files_bytes : List UnitsOfFile → ℕ
files_bytes [] = 0
files_bytes (f ∷ later) = 4 * length f.constants + units_bytes f.units + files_bytes later

-- LAW
abbrev pub EachProgramIsSized : Type 0
EachProgramIsSized = (fs : List UnitsOfFile) → bytes_of_objects (program (files_of fs)).objects ≤ files_bytes fs

unfoldable pub linked_sizes_opened : Unit {0}
unfolding count_bytes variables_bytes unit_bytes units_bytes files_bytes
linked_sizes_opened = tt
