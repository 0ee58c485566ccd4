-- What the C function of each of some units has, read off their lowered texts: its name, what it gives, its parameters, its variables, control lists and
-- temporaries, and what it calls; and the constants of the file. ANSI X3.9-1978, sections 4.1, 5.1, 8.7, 12.8, 15.5 and 15.6; C89, 3.5 and 3.5.4.3; CSTR 149.
use Rattle.std.specs.List.{list_any, flat_map}
use Rattle.std.specs.Prelude.{ℕ, suc, max, ℤ, pos, List, [], ◌∷◌, ◌++◌, map, length, fold, Option, Some, None, option_and_then, slice_get, bytes_eq, if◌then◌else◌}
use Rattle.main_translation.specs.f_tree.declared.names.Basic.{Basic}
use Rattle.main_translation.specs.f_tree.Values.{Bytes}
use Rattle.main_translation.specs.f_tree.Facts.{UnitKind, FunctionUnit, EntryPoint, ProgramUnit, Facts}
use Rattle.main_translation.specs.f_tree.World.{Procedure}
use Rattle.main_translation.specs.f_tree.Meaning.{found_from}
use Rattle.main_translation.specs.f_tree.CNames.{DummyUse, IntegerDummy, LogicalDummy, TextDummy, AlternateReturn, CalledDummy, IntegerFunctionDummy, LogicalFunctionDummy, PassedDummy}
use Rattle.main_translation.specs.l_core.Pures.{NoPure, AndPure}
use Rattle.main_translation.specs.l_core.Steps.{Takes, Step, Keep, Compute, CallFor, CallSub, Acts, Text}
use Rattle.main_translation.specs.c_tree.declared.types.NumberType.{NumberType}
use Rattle.main_translation.specs.c_tree.declared.types.ResultType.{ResultType}
use Rattle.main_translation.specs.c_tree.declared.types.ResultType.TheVariants as result
use Rattle.main_translation.specs.c_tree.declared.types.ParameterType.{ParameterType}
use Rattle.main_translation.specs.c_tree.declared.types.ParameterType.TheVariants as parameter
use Rattle.main_translation.specs.c_tree.declared.types.FunctionType.TheVariants as pointer
use Rattle.main_translation.specs.c_tree.declared.types.ArgumentType.TheVariants as argument
use Rattle.main_translation.specs.c_emit.Calls.{kind_number}
use Rattle.main_translation.specs.faithful.StorageImage.{function_name}
use Rattle.main_translation.specs.faithful.Signatures.{named_formals}
use Rattle.main_translation.specs.main_file.MainFile.{Called}
use Rattle.main_translation.specs.main_file.MainItems.{stops_from}
use Rattle.unit_sites.specs.procedure_emission.ProcedureItems.{Numbers}
use Rattle.unit_sites.specs.procedure_emission.EmittedUnits.{number_result}
use Rattle.unit_sites.specs.unit_file.UnitFile.{Parameter, Callee, Inventory}
use Rattle.unit_sites.specs.unit_file.UnitItems.{procedures_named}
use Rattle.main_translation.specs.Contents.{with_new, own_values, own_value, kind_value, number_type_of, variable_of, listings_from, calls_of, text_at}
use Rattle.behind_bounds.specs.BehindBounds.{behind}
use Rattle.unit_translation.specs.UnitFlow.{item_kind}
unfoldable pub use Rattle.unit_translation.specs.UnitBounds.{formals_in, bounds_kept, unit_bounds_opened}

-- a unit with its lowered text, and what each of its dummies stands for by its uses
pub record LoweredUnit : Type 0 where
  pub unit : ProgramUnit
  pub text : Text
  pub use_of : Bytes → DummyUse

abbrev pub program_units : List LoweredUnit → List ProgramUnit
program_units us = map (λ (u : LoweredUnit). u.unit) us

-- its lowered text behind what it keeps of its dummy arrays
abbrev pub whole_text : LoweredUnit → Text
whole_text u = behind (length (bounds_kept u.unit)) u.text

-- the number of each procedure is that of its unit
abbrev pub unit_numbers : List LoweredUnit → Numbers
unit_numbers us = found_from 0 (program_units us)

-- ## Constants

-- an item is passed with the number of its type and with the number of its elements; functions and procedures are passed their operands, but
-- for labels, which are passed as nothing
unfoldable pub values_passed : Text → ℕ → Step → List ℤ
values_passed u n (Acts Takes (AndPure p NoPure) m) = kind_value (option_and_then kind_number (item_kind u n p)) ++ pos 1 ∷ own_value p
values_passed u n (Compute k f ps) = own_values ps
values_passed u n (CallFor k callee ps) = own_values ps
values_passed u n (CallSub k x ps) = own_values ps
values_passed u n st = []

unfoldable pub values_from : Text → ℕ → List Step → List ℤ
values_from u n [] = []
values_from u n (st ∷ later) = values_passed u n st ++ values_from u (suc n) later

-- those of all units, each once, ascending
unfoldable pub constants_passed : List LoweredUnit → List ℤ
constants_passed us = fold with_new [] (flat_map (λ (u : LoweredUnit). values_from (whole_text u) 0 (whole_text u).steps) us)

-- ## Dummies and results

-- the parameter for what a dummy stands for
unfoldable pub parameter_for : DummyUse → ParameterType
parameter_for IntegerDummy = parameter.Integers
parameter_for LogicalDummy = parameter.Logicals
parameter_for TextDummy = parameter.Chars
parameter_for AlternateReturn = parameter.Int
parameter_for CalledDummy = parameter.Function pointer.Subroutine
parameter_for IntegerFunctionDummy = parameter.Function pointer.Integer
parameter_for LogicalFunctionDummy = parameter.Function pointer.Logical
parameter_for PassedDummy = parameter.Function pointer.Unknown

unfoldable pub parameters_in : LoweredUnit → List Parameter
parameters_in u = map (λ x. record { name = x; type = parameter_for (u.use_of x) }) (named_formals (formals_in u.unit.entries))

-- the type of its name, of a function with one entry
unfoldable pub type_given : ProgramUnit → List EntryPoint → Option Basic
type_given unit [] = None
type_given unit (entry ∷ []) = Some (unit.attribute entry.name).basic
type_given unit (entry ∷ other ∷ later) = None

-- what is no function gives the number of its alternate return
unfoldable pub basic_given : ProgramUnit → UnitKind → Option Basic
basic_given unit FunctionUnit = type_given unit unit.entries
basic_given unit kind = None

unfoldable pub result_by : Option Basic → ResultType
result_by None = result.Int
result_by (Some basic) = number_result basic

unfoldable pub returned_by : Option Basic → Option NumberType
returned_by None = None
returned_by (Some basic) = Some (number_type_of basic)

unfoldable pub result_given : ProgramUnit → ResultType
result_given unit = result_by (basic_given unit unit.kind)

-- ## Temporaries

unfoldable pub temporaries_kept : List Step → ℕ
temporaries_kept [] = 0
temporaries_kept (Keep k p ∷ later) = max (suc k) (temporaries_kept later)
temporaries_kept (Compute k f ps ∷ later) = max (suc k) (temporaries_kept later)
temporaries_kept (CallFor k callee ps ∷ later) = max (suc k) (temporaries_kept later)
temporaries_kept (st ∷ later) = temporaries_kept later

-- ## Functions that are called

abbrev pub library_callee : Called → Callee
library_callee call = record { name = call.name; result = call.result; arguments = call.arguments }

-- the procedures that a step calls or passes by their names
unfoldable pub procedures_by : Facts → Step → List Bytes
procedures_by c (CallFor k callee ps) = procedures_named c callee.name ps
procedures_by c (CallSub k x ps) = procedures_named c x ps
procedures_by c st = []

-- names, each once, in the order in which they stand first
unfoldable pub with_name : List Bytes → Bytes → List Bytes
with_name seen x = if list_any (bytes_eq x) seen then seen else seen ++ x ∷ []

unfoldable pub procedures_in : Text → List Bytes
procedures_in u = fold with_name [] (flat_map (procedures_by u.facts) u.steps)

-- a procedure is declared as its unit defines it; one that no unit defines is not declared
unfoldable pub unit_callee : Option LoweredUnit → List Callee
unit_callee None = []
unit_callee (Some u) =
    record { name = function_name u.unit; result = result_given u.unit; arguments = map (λ (p : Parameter). argument.Parameter p.type) (parameters_in u) } ∷ []

unfoldable pub procedure_callee : List LoweredUnit → Bytes → List Callee
procedure_callee us x = unit_callee (option_and_then (slice_get us) (unit_numbers us (Procedure x)))

-- ## The whole

abbrev pub inventory_of : List LoweredUnit → LoweredUnit → Inventory
inventory_of us u = record {
  name = function_name u.unit;
  result = result_given u.unit;
  parameters = parameters_in u;
  returned = returned_by (basic_given u.unit u.unit.kind);
  variables = map (variable_of u.unit) u.unit.stored;
  lists = listings_from 0 (whole_text u).steps;
  temporaries = temporaries_kept (whole_text u).steps;
  bounds = bounds_kept u.unit;
  calls = map library_callee (calls_of (whole_text u).steps) ++ flat_map (procedure_callee us) (procedures_in (whole_text u));
  strings = stops_from 0 (whole_text u).steps;
  texts = λ n. text_at (slice_get (whole_text u).steps n);
}

abbrev pub inventories_of : List LoweredUnit → List Inventory
inventories_of us = map (inventory_of us) us

unfoldable pub unit_contents_opened : Unit {0}
unfolding values_passed values_from constants_passed parameter_for parameters_in type_given basic_given result_by returned_by result_given temporaries_kept procedures_by with_name procedures_in unit_callee procedure_callee
unit_contents_opened = tt
