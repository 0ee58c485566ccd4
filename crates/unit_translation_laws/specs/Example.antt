-- A main program, a function and a subroutine that call each other, with their lowered texts and their functions in C. ANSI X3.9-1978, sections 14 and 15.
use Rattle.std.specs.Prelude.{List, [], ◌∷◌, codes}
use Rattle.unit_translation.specs.f_tree.Values.{Bytes}
use Rattle.unit_translation.specs.f_tree.CNames.{DummyUse, IntegerDummy}
use Rattle.unit_translation.specs.c_tree.declared.types.ResultType.TheVariants as result
use Rattle.unit_translation.specs.c_tree.declared.types.ParameterType.TheVariants as parameter
use Rattle.unit_translation.specs.c_tree.declared.types.ArgumentType.TheVariants as argument
use Rattle.unit_translation.specs.c_tree.declared.types.ListType.TheVariants as list_type
use Rattle.unit_translation.specs.unit_file.UnitFile.{Callee, WrittenUnit}
use Rattle.unit_translation.specs.unit_sites.UnitSites.{UnitsOfFile}
use Rattle.unit_programs.specs.Example.{its_constants, main_unit, function_unit, subroutine_unit, text_with, main_steps, function_steps, subroutine_steps, main_inventory, main_body, function_written, subroutine_written}
use Rattle.unit_translation.specs.UnitContents.{LoweredUnit}

-- each dummy is an integer
abbrev pub its_use : Bytes → DummyUse
its_use x = IntegerDummy

abbrev pub lowered_main : LoweredUnit
lowered_main = record { unit = main_unit; text = text_with 0 main_unit main_steps; use_of = its_use }

abbrev pub lowered_function : LoweredUnit
lowered_function = record { unit = function_unit; text = text_with 1 function_unit function_steps; use_of = its_use }

abbrev pub lowered_subroutine : LoweredUnit
lowered_subroutine = record { unit = subroutine_unit; text = text_with 2 subroutine_unit subroutine_steps; use_of = its_use }

abbrev pub its_lowered_units : List LoweredUnit
its_lowered_units = lowered_main ∷ lowered_function ∷ lowered_subroutine ∷ []

-- functions of the library are declared before those of other units
abbrev pub its_calls : List Callee
its_calls =
    record { name = codes "s_wsle"; result = result.Integer; arguments = argument.List list_type.Transfer ∷ [] }
    ∷ record {
      name = codes "do_lio";
      result = result.Integer;
      arguments = argument.Parameter parameter.Integers ∷ argument.Parameter parameter.Integers ∷ argument.Parameter parameter.Chars ∷ argument.Parameter parameter.Length ∷ [];
    }
    ∷ record { name = codes "e_wsle"; result = result.Integer; arguments = [] }
    ∷ record { name = codes "f_"; result = result.Integer; arguments = argument.Parameter parameter.Integers ∷ [] }
    ∷ record { name = codes "s_"; result = result.Int; arguments = argument.Parameter parameter.Integers ∷ [] }
    ∷ []

abbrev pub main_made : WrittenUnit
main_made = record { inventory = record main_inventory { calls = its_calls }; body = main_body }

-- ## In one file

abbrev pub its_lowered_files : List (List LoweredUnit)
its_lowered_files = its_lowered_units ∷ []

abbrev pub its_written_files : List UnitsOfFile
its_written_files = record { constants = its_constants; units = main_made ∷ function_written ∷ subroutine_written ∷ [] } ∷ []

-- ## In two files

-- the main program alone passes constants
abbrev pub its_lowered_apart : List (List LoweredUnit)
its_lowered_apart = (lowered_main ∷ []) ∷ (lowered_function ∷ lowered_subroutine ∷ []) ∷ []

abbrev pub its_written_apart : List UnitsOfFile
its_written_apart = record { constants = its_constants; units = main_made ∷ [] } ∷ record { constants = []; units = function_written ∷ subroutine_written ∷ [] } ∷ []
