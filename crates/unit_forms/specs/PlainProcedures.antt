-- Which written main programs, subroutines and functions are plain, by a test that computes: the names are integers, logicals and procedures, those that are
-- stored have storage of their own, and the statements are those that are lowered. ANSI X3.9-1978, sections 2.4, 4.1, 5.1, 5.5, 8, 9, 11.10, 15 and 18.
use Rattle.std.specs.List.{list_all, list_any}
use Rattle.std.specs.Prelude.{Bool, true, false, not, ◌&&◌, ◌||◌, List, [], ◌∷◌, bytes_eq}
use Rattle.plain_forms.specs.f_tree.declared.names.Class.{Class}
use Rattle.plain_forms.specs.f_tree.declared.names.Class.TheVariants as class
use Rattle.plain_forms.specs.f_tree.declared.names.Options.{Options}
use Rattle.plain_forms.specs.f_tree.declared.units.Unit.{Unit as WrittenUnit}
use Rattle.plain_forms.specs.f_tree.declared.statements.DummyArgument.{DummyArgument}
use Rattle.plain_forms.specs.f_tree.CNames.{is_name}
use Rattle.plain_forms.specs.f_tree.Values.{Bytes}
use Rattle.plain_forms.specs.f_tree.Facts.{Attribute, UnitKind, MainProgram, SubroutineUnit, FunctionUnit, BlockDataUnit}
use Rattle.plain_forms.specs.f_tree.Reading.{name_or_none}
use Rattle.plain_forms.specs.f_tree.Attributes.{named_dummies, Described, attribute_in, all_described}
use Rattle.plain_forms.specs.f_tree.Lines.{entries_from, unit_kind, unit_read}
use Rattle.kept_bounds.specs.KeptBounds.{has_adjustable_bounds}
use Rattle.plain_forms.specs.PlainUnits.{has_none, has_own_storage, has_plain_lines, has_plain_bounds, has_constant_bounds, is_number, is_plain_variable}

-- ## The unit

-- BLOCK DATA has no statement that is run
unfoldable pub may_run : UnitKind → Bool
may_run MainProgram = true
may_run SubroutineUnit = true
may_run FunctionUnit = true
may_run BlockDataUnit = false

unfoldable pub is_function : UnitKind → Bool
is_function FunctionUnit = true
is_function kind = false

-- a main program has no dummies
unfoldable pub heading_fits : UnitKind → List DummyArgument → Bool
heading_fits MainProgram dummies = has_none dummies
heading_fits kind dummies = true

-- it has one name by which it is called
unfoldable pub has_no_entries : WrittenUnit → Bool
has_no_entries u = has_none (entries_from 0 u.statements)

-- ## The names

-- a dummy variable, or a dummy array whose bounds are constant but for a last one that is assumed, or are fixed by each call
unfoldable pub is_plain_dummy : Described → Bool
is_plain_dummy d = is_name d.name && (is_number d.attribute && (has_plain_bounds d.attribute || has_adjustable_bounds d.attribute))

-- the result of a function is one number
unfoldable pub is_plain_result : UnitKind → Attribute → Bool
is_plain_result kind a = is_function kind && (is_number a && has_none a.dimensions)

-- a name of a class: variables and arrays of numbers, dummy procedures, and what takes no storage
unfoldable pub is_plain_as : UnitKind → Class → Described → Bool
is_plain_as kind class.Stored d = has_constant_bounds d.attribute && is_plain_variable d
is_plain_as kind class.Dummy d = is_plain_dummy d
is_plain_as kind class.DummyProcedure d = is_name d.name && has_none d.attribute.dimensions
is_plain_as kind class.Result d = is_plain_result kind d.attribute
is_plain_as kind other d = has_plain_bounds d.attribute

unfoldable pub is_plain_name : UnitKind → Described → Bool
is_plain_name kind d = is_plain_as kind d.attribute.class d

unfoldable pub each_name_is_plain : WrittenUnit → Bool
each_name_is_plain u = list_all (is_plain_name (unit_kind u)) (all_described u)

-- ## The heading

-- no dummy stands twice in the list of the unit
unfoldable pub each_stands_once : List Bytes → Bool
each_stands_once [] = true
each_stands_once (x ∷ xs) = not (list_any (bytes_eq x) xs) && each_stands_once xs

-- a dummy argument: a variable, an array or a procedure
unfoldable pub is_dummy_class : Class → Bool
is_dummy_class class.Dummy = true
is_dummy_class class.DummyProcedure = true
is_dummy_class other = false

unfoldable pub is_result_class : Class → Bool
is_result_class class.Result = true
is_result_class other = false

-- what a name is within its unit
unfoldable pub class_in : WrittenUnit → Bytes → Class
class_in u x = (attribute_in (all_described u) x).class

-- each name of the list is a dummy argument within the unit, and no constant
unfoldable pub names_dummies : WrittenUnit → Bool
names_dummies u = list_all (λ x. is_dummy_class (class_in u x)) (named_dummies u.dummies)

-- the name of a function is that of its result within the unit, and no dummy and no constant
unfoldable pub names_its_result : WrittenUnit → Bool
names_its_result u = not (is_function (unit_kind u)) || is_result_class (class_in u (name_or_none u.name))

-- dummies that stand once and are what the unit makes of them, and a result
unfoldable pub has_plain_heading : WrittenUnit → Bool
has_plain_heading u = each_stands_once (named_dummies u.dummies) && (names_dummies u && names_its_result u)

-- ## The whole

-- a main program, a subroutine or a function with one entry, storage of its own, and a plain heading, plain statements and names
unfoldable pub is_plain_unit : Options → WrittenUnit → Bool
is_plain_unit options u =
    may_run (unit_kind u) && (heading_fits (unit_kind u) u.dummies && (has_no_entries u && (has_own_storage u && (has_plain_heading u && (has_plain_lines (unit_read options u) && each_name_is_plain u)))))

unfoldable pub plain_procedures_opened : Unit {0}
unfolding may_run is_function heading_fits has_no_entries is_plain_dummy is_plain_result is_plain_as is_plain_name each_name_is_plain each_stands_once is_dummy_class is_result_class class_in names_dummies names_its_result has_plain_heading is_plain_unit
plain_procedures_opened = tt
