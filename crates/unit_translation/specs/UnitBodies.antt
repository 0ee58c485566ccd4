-- The C functions of units that call each other, and their files: items for the steps of each, and statements with labels, arms and loops where its lowered
-- text has them. ANSI X3.9-1978, sections 2.4, 11 and 15; C89, 3.6 and 3.7.1; CSTR 149.
use Rattle.std.specs.Prelude.{ℕ, ◌+◌, ◌&&◌, ℤ, List, [], ◌∷◌, ◌++◌, map, length, Option, Some, None, is_none, option_and_then, slice_get, if◌then◌else◌}
use Rattle.main_translation.specs.c_tree.declared.statement.CStmt.{CStmt}
use Rattle.main_translation.specs.c_tree.Flat.{Flat}
use Rattle.main_translation.specs.c_structure.Statements.{Outline, statements_for}
use Rattle.main_translation.specs.Outlined.{label_at, passes_arms, loop_at, if_returned}
use Rattle.unit_sites.specs.unit_file.UnitFile.{Inventory, WrittenUnit, object_count, writing_of}
use Rattle.unit_sites.specs.unit_file.UnitNames.{names_of}
use Rattle.unit_sites.specs.unit_file.UnitItems.{whole_items}
use Rattle.unit_sites.specs.unit_file.UnitSavings.{savings_of}
use Rattle.unit_sites.specs.UnitSites.{UnitsOfFile, Site, behind}
use Rattle.unit_translation.specs.UnitFlow.{kind_before, are_in_place}
use Rattle.unit_translation.specs.UnitContents.{LoweredUnit, whole_text, unit_numbers, constants_passed, inventory_of, inventories_of}

-- the units of all files, in their order
abbrev pub all_lowered : List (List LoweredUnit) → List LoweredUnit
all_lowered [] = []
all_lowered (us ∷ lfs) = us ++ all_lowered lfs

-- ## Functions

-- what the statements of a unit are built from, given the units of all files
abbrev pub unit_outline : List LoweredUnit → Site → LoweredUnit → Outline
unit_outline all s u = record {
  names = names_of s.constants (inventories_of all) (inventory_of all u) s.bases;
  label = label_at (whole_text u);
  ends_arm = λ n. passes_arms (slice_get (whole_text u).steps n) && is_none (label_at (whole_text u) n);
  loop = loop_at (whole_text u);
}

-- an item for each bound that is kept, and one for each step; none where one is not emitted
abbrev pub items_of : List LoweredUnit → Site → LoweredUnit → Option (List Flat)
items_of all s u =
    whole_items (unit_numbers all) (writing_of s.constants (inventory_of all u) s.bases u.text.facts (kind_before (whole_text u))) (whole_text u).position (savings_of (inventory_of all u) s.bases)
    (whole_text u).steps

-- none where the steps have no structure
unfoldable pub body_of : List LoweredUnit → Site → LoweredUnit → Option (List CStmt)
body_of all s u =
    if are_in_place (whole_text u) 0 (whole_text u).steps then
    option_and_then if_returned (option_and_then (λ items. statements_for (unit_outline all s u) (length items) 0 items) (items_of all s u))
    else None

-- a function before others
unfoldable pub written_before : Inventory → Option (List CStmt) → Option (List WrittenUnit) → Option (List WrittenUnit)
written_before v (Some body) (Some later) = Some (record { inventory = v; body = body } ∷ later)
written_before v body later = None

-- those of units of one file, whose objects stand one behind the other from a number on
unfoldable pub written_from : List LoweredUnit → ℕ → ℕ → List ℤ → ℕ → List LoweredUnit → Option (List WrittenUnit)
written_from all own file constants function [] = Some []
written_from all own file constants function (u ∷ later) =
    written_before (inventory_of all u) (body_of all (record { constants = constants; bases = record { own = own; file = file; function = function } }) u)
    (written_from all own file constants (function + object_count (inventory_of all u)) later)

-- ## Files

-- a file before others
unfoldable pub file_before : List ℤ → Option (List WrittenUnit) → Option (List UnitsOfFile) → Option (List UnitsOfFile)
file_before constants (Some ws) (Some later) = Some (record { constants = constants; units = ws } ∷ later)
file_before constants ws later = None

-- each file has the constants that its own units pass, before the objects of its functions
unfoldable pub files_from : List LoweredUnit → ℕ → ℕ → List (List LoweredUnit) → Option (List UnitsOfFile)
files_from all own first [] = Some []
files_from all own first (us ∷ lfs) =
    file_before (constants_passed us) (written_from all own first (constants_passed us) (first + length (constants_passed us)) us)
    (files_from all own (behind (first + length (constants_passed us)) (map (inventory_of all) us)) lfs)

-- the functions of all units, in their files
unfoldable pub written_files : List (List LoweredUnit) → Option (List UnitsOfFile)
written_files lfs = files_from (all_lowered lfs) (length (all_lowered lfs)) 0 lfs

unfoldable pub unit_bodies_opened : Unit {0}
unfolding body_of written_before written_from file_before files_from written_files
unit_bodies_opened = tt
