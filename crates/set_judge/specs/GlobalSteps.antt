-- The global names as the judge of a set keeps them, and what it keeps of those before one.
use Rattle.std.specs.Prelude.{◌≡◌, Bool, true, false, not, ◌&&◌, ◌||◌, List, [], ◌∷◌, map, bytes_eq, Option, Some, None, if◌then◌else◌}
use Rattle.f_tree.specs.Values.{Bytes}
use Rattle.f_tree.specs.declared.units.Unit.{Unit as WrittenUnit}
use Rattle.name_table.specs.declared.NameTable.{NameTable}
use Rattle.name_table.specs.Named.{value_of}
use Rattle.declaration_rows.specs.GlobalRows.{Global, is_main_program}
use Rattle.set_judge.specs.declared.globals.GlobalName.{GlobalName}

-- a global name as it is written
unfoldable pub global_of : GlobalName → Global
global_of g = record { name = g.name.now; is_block = g.is_block; file = g.file; card = g.card }

abbrev pub globals_in : List GlobalName → List Global
globals_in gs = map global_of gs

-- a name among those before: whether all that it stands for are common blocks
unfoldable pub still_block : Option Bool → Bool
still_block None = true
still_block (Some are_blocks) = are_blocks

unfoldable pub standing_of : List Global → Bytes → Option Bool
standing_of [] x = None
standing_of (g ∷ before) x = if bytes_eq g.name x then Some (g.is_block && still_block (standing_of before x)) else standing_of before x

unfoldable pub clashes_with : Option Bool → Bool → Bool
clashes_with None is_block = false
clashes_with (Some are_blocks) is_block = not (is_block && are_blocks)

-- the names before one, and what the judge has of them
pub record AreSeen (seen : NameTable Bool) (before : List Global) : Type 0 where
  pub standing : (x : Bytes) → value_of seen x ≡ standing_of before x

-- whether a main program has stood among units or before them
unfoldable pub main_found : Bool → List WrittenUnit → Bool
main_found found [] = found
main_found found (u ∷ us) = main_found (found || is_main_program u) us
