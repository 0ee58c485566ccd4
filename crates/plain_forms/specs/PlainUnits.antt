-- Which written main programs are plain, by a test that computes: the names are integers and logicals with storage of their own, and the statements
-- are those that are lowered. ANSI X3.9-1978, sections 2.4, 4.1, 5.1, 8, 9, 11.10 and 15.7.
use Rattle.std.specs.List.{list_all}
use Rattle.std.specs.Prelude.{◌≡◌, ℕ, nat_eq, nat_lt, pos, Bool, true, false, not, ◌&&◌, ◌||◌, List, [], ◌∷◌, length, Option, Some, None, is_some}
use Rattle.lowering_laws.specs.f_tree.declared.names.Class.{Class}
use Rattle.lowering_laws.specs.f_tree.declared.names.Class.TheVariants as class
use Rattle.lowering_laws.specs.f_tree.declared.names.Options.{Options}
use Rattle.lowering_laws.specs.f_tree.declared.units.Unit.{Unit as WrittenUnit}
use Rattle.lowering_laws.specs.f_tree.CNames.{is_name}
use Rattle.lowering_laws.specs.f_tree.Values.{in_range}
use Rattle.lowering_laws.specs.f_tree.Facts.{Bounds, Attribute, UnitKind, MainProgram, SubroutineUnit, FunctionUnit, BlockDataUnit, ProgramUnit}
use Rattle.lowering_laws.specs.f_tree.Valuing.{elements_of, size_of_dimension}
use Rattle.lowering_laws.specs.f_tree.Nests.{ranges_of, each_ends, each_contained}
use Rattle.lowering_laws.specs.f_tree.Attributes.{from_all, Described, all_described}
use Rattle.lowering_laws.specs.f_tree.Lines.{size_of, is_stored, entries_from, common_in, equivalence_in, data_in, unit_kind, unit_read}
use Rattle.lowering_laws.specs.Layout.{are_direct, has_end, has_loops, blocks_are_whole, each_branches_well, enters_outside}
use Rattle.main_translation.specs.c_emit.Numbers.{is_numeric}

-- ## The unit and its storage

-- nothing stands in a list
unfoldable pub has_none : {A : Type 0} → List A → Bool
has_none [] = true
has_none (a ∷ as') = false

-- a main program
unfoldable pub is_main : UnitKind → Bool
is_main MainProgram = true
is_main SubroutineUnit = false
is_main FunctionUnit = false
is_main BlockDataUnit = false

-- no dummy argument and no ENTRY
unfoldable pub has_one_entry : WrittenUnit → Bool
has_one_entry u = has_none u.dummies && has_none (entries_from 0 u.statements)

-- no COMMON, no EQUIVALENCE and no DATA
unfoldable pub has_own_storage : WrittenUnit → Bool
has_own_storage u =
    has_none (from_all common_in u.statements) && (has_none (from_all equivalence_in u.statements) && has_none (from_all data_in u.statements))

-- ## The statements

-- each loop has its terminal statement, and one that begins within another ends within it
unfoldable pub loops_are_nested : ProgramUnit → Bool
loops_are_nested p = each_ends p 0 p.lines && each_contained (ranges_of p)

-- each loop is in one arm of a block or around the whole of it, and is entered by its DO alone
unfoldable pub loops_are_entered_well : ProgramUnit → Bool
loops_are_entered_well p = blocks_are_whole p 0 p.lines && (each_branches_well p 0 p.lines && list_all (enters_outside p) p.entries)

-- no loops, or loops that are nested and entered well
unfoldable pub loops_fit : ProgramUnit → Bool
loops_fit p = not (has_loops p.lines) || (loops_are_nested p && loops_are_entered_well p)

-- the statements are lowered, END stands last, and the loops fit
unfoldable pub has_plain_lines : ProgramUnit → Bool
has_plain_lines p = are_direct p.lines && (has_end p.lines && loops_fit p)

-- ## The names

-- a bound, and the size of its dimension, have 32 bits
unfoldable pub bound_fits : Bounds → Bool
bound_fits b = in_range b.lower && in_range (pos (size_of_dimension b))

-- no upper bound is assumed but that of the last dimension (5.1.2.2)
unfoldable pub only_last_is_assumed : List Bounds → Bool
only_last_is_assumed [] = true
only_last_is_assumed (b ∷ bs) = (is_some b.upper || has_none bs) && only_last_is_assumed bs

-- each dimension that is written has bounds that are constant, or the last is assumed, and they fit
unfoldable pub has_plain_bounds : Attribute → Bool
has_plain_bounds a = nat_eq (length a.bounds) (length a.dimensions) && (list_all bound_fits a.bounds && only_last_is_assumed a.bounds)

-- and none is assumed, so that the number of elements is known
unfoldable pub has_constant_bounds : Attribute → Bool
has_constant_bounds a = has_plain_bounds a && is_some (elements_of a.bounds)

-- a dummy argument or the result of a function
unfoldable pub is_of_call : Class → Bool
is_of_call class.Dummy = true
is_of_call class.Result = true
is_of_call k = false

-- a numeric storage unit, which has four character units
unfoldable pub has_four_units : Option ℕ → Bool
has_four_units None = false
has_four_units (Some n) = nat_eq n 4

-- an integer or a logical, or an array of them
unfoldable pub is_number : Attribute → Bool
is_number a = is_numeric a.basic && has_four_units a.width

-- numbers of at most 67,108,864 bytes, as many as one sequence may have, under a name of letters and digits
unfoldable pub is_plain_variable : Described → Bool
is_plain_variable d = is_name d.name && (is_number d.attribute && nat_lt (size_of d.attribute) 67108865)

-- a name that is no dummy and no result, whose bounds are constant and fit, and which is a plain variable if it is stored
unfoldable pub is_plain_name : Described → Bool
is_plain_name d = not (is_of_call d.attribute.class) && (has_constant_bounds d.attribute && (not (is_stored d.attribute) || is_plain_variable d))

-- each name of the unit is plain
unfoldable pub names_are_plain : WrittenUnit → Bool
names_are_plain u = list_all is_plain_name (all_described u)

-- ## The whole

-- a main program with one entry, storage of its own, and plain statements and names
unfoldable pub is_plain_main : Options → WrittenUnit → Bool
is_plain_main options u =
    is_main (unit_kind u) && (has_one_entry u && (has_own_storage u && (has_plain_lines (unit_read options u) && names_are_plain u)))

unfoldable pub plain_units_opened : Unit {0}
unfolding has_none is_main has_one_entry has_own_storage loops_are_nested loops_are_entered_well loops_fit has_plain_lines bound_fits only_last_is_assumed has_plain_bounds has_constant_bounds is_of_call has_four_units is_number is_plain_variable is_plain_name names_are_plain is_plain_main
plain_units_opened = tt
