-- The C functions of units that call each other from the items of their steps by names: an item for each bound that is kept and for each lowered step, the statements that they have, and what
-- each function declares; and their files. ANSI X3.9-1978, sections 2.4, 10 to 12 and 15; C89, 3.6 and 3.7.1.
use Rattle.std.specs.Prelude.{ℕ, ℤ, ◌&&◌, List, [], ◌∷◌, length, drop, Option, Some, None, is_none, option_map, option_and_then, slice_get, if◌then◌else◌}
use Rattle.named_mains.specs.l_core.Steps.{Step, Text}
use Rattle.named_mains.specs.c_tree.declared.statement.CStmt.{CStmt}
use Rattle.named_mains.specs.item_emission.NamedEmission.{Knowledge, Kinds}
use Rattle.named_mains.specs.named_items.declared.item.Item.{Item}
use Rattle.named_mains.specs.named_items.Layouts.{Layout}
use Rattle.named_mains.specs.NamedMains.{item_ahead, items_from, statements_of}
use Rattle.named_mains.specs.main_translation.Outlined.{label_at, passes_arms, loop_at}
use Rattle.unit_translation.specs.unit_file.UnitFile.{KeptBound, WrittenUnit}
use Rattle.unit_translation.specs.unit_sites.UnitSites.{UnitsOfFile}
use Rattle.unit_item_laws.specs.AgreeingUnits.{known_of_unit, bound_step}
use Rattle.unit_translation.specs.UnitFlow.{kind_before, are_in_place}
use Rattle.unit_translation.specs.UnitContents.{LoweredUnit, bounds_kept, whole_text, unit_numbers, constants_passed, inventory_of, inventories_of}
use Rattle.unit_translation.specs.UnitBodies.{all_lowered, written_before}

-- what is known of a unit where its steps are written, given the constants of its file and the units of all files
abbrev pub known_for : List ℤ → List LoweredUnit → LoweredUnit → Knowledge
known_for constants all u = known_of_unit constants (inventories_of all) (inventory_of all u) u.text.facts (unit_numbers all) (whole_text u).position

-- labels, arms and loops
abbrev pub layout_for : Text → Layout
layout_for u = record { label = label_at u; ends_arm = λ n. passes_arms (slice_get u.steps n) && is_none (label_at u n); loop = loop_at u }

-- the items by which bounds are kept, before others
unfoldable pub bound_items_from : Knowledge → List KeptBound → Option (List Item) → Option (List Item)
bound_items_from known [] items = items
bound_items_from known (one ∷ later) items = item_ahead (bound_step known one) (bound_items_from known later items)

-- the items of a text behind bounds
unfoldable pub items_behind : Knowledge → (ℕ → Kinds) → List KeptBound → List Step → Option (List Item)
items_behind known kinds bounds steps = bound_items_from known bounds (items_from known kinds (length bounds) (drop (length bounds) steps))

abbrev pub named_items_of : List ℤ → List LoweredUnit → LoweredUnit → Option (List Item)
named_items_of constants all u = items_behind (known_for constants all u) (kind_before (whole_text u)) (bounds_kept u.unit) (whole_text u).steps

-- the statements of a unit; none where a step is not emitted, where they have no structure, or where an output is not in place
unfoldable pub named_body_of : List ℤ → List LoweredUnit → LoweredUnit → Option (List CStmt)
named_body_of constants all u =
    if are_in_place (whole_text u) 0 (whole_text u).steps then option_and_then (statements_of (layout_for (whole_text u))) (named_items_of constants all u)
    else None

-- the functions of some of the units, in their order
unfoldable pub named_from : List ℤ → List LoweredUnit → List LoweredUnit → Option (List WrittenUnit)
named_from constants all [] = Some []
named_from constants all (u ∷ later) = written_before (inventory_of all u) (named_body_of constants all u) (named_from constants all later)

-- ## Files

-- the functions of units of one file, given the units of all files, and the constants that these pass
unfoldable pub named_file_of : List LoweredUnit → List LoweredUnit → Option UnitsOfFile
named_file_of all us = option_map (λ ws. record { constants = constants_passed us; units = ws }) (named_from (constants_passed us) all us)

unfoldable pub named_files_from : List LoweredUnit → List (List LoweredUnit) → Option (List UnitsOfFile)
named_files_from all [] = Some []
named_files_from all (us ∷ lfs) = option_and_then (λ f. option_map (λ fs. f ∷ fs) (named_files_from all lfs)) (named_file_of all us)

-- those of all files, in their order
unfoldable pub named_files : List (List LoweredUnit) → Option (List UnitsOfFile)
named_files lfs = named_files_from (all_lowered lfs) lfs

unfoldable pub named_units_opened : Unit {0}
unfolding bound_items_from items_behind named_body_of named_from named_file_of named_files_from named_files
named_units_opened = tt
