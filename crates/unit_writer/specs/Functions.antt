-- The C function of a unit as it is written: from the table of its names, its heading, the procedures of the set, its contents and its statements.
-- ANSI X3.9-1978, sections 4.1, 5.1, 5.5.1, 12.8, 15.5, 15.6 and 15.9; C89, 3.5 and 3.7.1.
use Rattle.std.specs.List.{flat_map}
use Rattle.std.specs.Option.{option_flatten}
use Rattle.std.specs.Prelude.{ℕ, Bool, true, false, List, [], ◌∷◌, ◌++◌, map, Option, Some, None, option_and_then, slice_get, if◌then◌else◌}
use Rattle.f_tree.specs.declared.names.Basic.{Basic}
use Rattle.f_tree.specs.CNames.{variable_name, external_name}
use Rattle.f_tree.specs.Values.{Bytes}
use Rattle.lowered_tree.specs.l_core.Steps.{Step}
use Rattle.c_tree.specs.declared.declaration.CLocal.{CLocal}
use Rattle.c_tree.specs.declared.declaration.CParam.{CParam}
use Rattle.c_tree.specs.declared.file.CFunction.{CFunction}
use Rattle.c_tree.specs.declared.statement.CStmt.{CStmt}
use Rattle.c_tree.specs.Linking.{main_name}
use Rattle.lowered_text.specs.declared.kept.Kept.{Kept}
use Rattle.lowered_text.specs.Texts.{kinds_of}
use Rattle.main_translation.specs.main_file.MainFile.{Called, temporaries_from, call_for, variable_by, lists_from}
use Rattle.main_translation.specs.Contents.{number_type_of, count_by, if_called, start_output, output_item, end_output, stop_run, function_called}
use Rattle.unit_translation.specs.unit_file.UnitFile.{KeptBound, parameter_for, bound_for, result_local, extern_for}
use Rattle.unit_translation.specs.UnitContents.{result_by, returned_by}
use Rattle.library_functions.specs.Described.{described}
use Rattle.name_facts.specs.declared.table.NameFacts.{NameFacts}
use Rattle.name_facts.specs.GivenFacts.{bounds_of, fact_in}
use Rattle.named_items.specs.Layouts.{layout_of}
use Rattle.item_emission.specs.NamedEmission.{Knowledge, Kinds}
use Rattle.unit_contents.specs.declared.contents.Calls.{Calls}
use Rattle.unit_contents.specs.declared.contents.Contents.{Contents}
use Rattle.unit_contents.specs.ContentsOf.{listing_of}
use Rattle.named_mains.specs.NamedMains.{statements_of}
use Rattle.named_units.specs.NamedUnits.{items_behind}
use Rattle.unit_writer.specs.declared.heading.UnitRole.{UnitRole}
use Rattle.unit_writer.specs.declared.heading.UnitRole.TheVariants as role
use Rattle.unit_writer.specs.declared.heading.Dummy.{Dummy}
use Rattle.unit_writer.specs.declared.heading.Heading.{Heading}
use Rattle.unit_writer.specs.declared.heading.Procedure.{Procedure}
use Rattle.unit_writer.specs.ToldUnits.{stored_names, dummy_told, bound_told, callees_told}

-- ## Statements

-- what the temporaries hold before a step
unfoldable pub kinds_at : List (Option Kept) → ℕ → Kinds
kinds_at kinds n = kinds_of (option_flatten (slice_get kinds n))

-- the statements of what is kept and of steps, given what is known and the contents
unfoldable pub body_by : Knowledge → List KeptBound → Contents → List Step → Option (List CStmt)
body_by known bounds c steps =
    if c.are_outputs_in_place then option_and_then (statements_of (layout_of c.layout)) (items_behind known (kinds_at c.kinds.items) bounds steps) else None

-- ## Declarations

-- the declaration of a variable or an array
unfoldable pub local_of : NameFacts → Bytes → CLocal
local_of table x = variable_by (number_type_of (fact_in table x).basic) (variable_name x) (count_by (map bounds_of (fact_in table x).bounds))

-- a declaration, where there is one
unfoldable pub local_if : Bool → CLocal → List CLocal
local_if true local = local ∷ []
local_if false local = []

-- the functions of the library
unfoldable pub calls_by : Calls → List Called
calls_by calls =
    if_called calls.starts start_output ++ (if_called calls.takes output_item ++ (if_called calls.finishes end_output
    ++ (if_called calls.stops stop_run ++ map function_called (map described calls.functions.items))))

-- given the type of what a function gives
unfoldable pub locals_by : NameFacts → List Bytes → Option Basic → List KeptBound → (Bytes → Option Procedure) → Contents → List CLocal
locals_by table names basic bounds procedures c =
    result_local (returned_by basic) ++ (temporaries_from 1 c.temporaries ++ (map bound_for bounds ++ (map call_for (calls_by c.calls)
    ++ (map extern_for (flat_map (callees_told procedures) c.procedures.items) ++ (map (local_of table) (stored_names table names) ++ lists_from 1 (map listing_of c.lists.items))))))

-- ## The function

-- its name, given what the unit is
unfoldable pub name_told : UnitRole → Bytes → List ℕ
name_told role.Main x = main_name
name_told role.Subroutine x = external_name x
name_told role.Function x = external_name x

-- the type of what a function gives; none for what is no function
unfoldable pub basic_told : NameFacts → UnitRole → Bytes → Option Basic
basic_told table role.Main x = None
basic_told table role.Subroutine x = None
basic_told table role.Function x = Some (fact_in table x).basic

abbrev pub parameter_told : Dummy → CParam
parameter_told d = parameter_for (dummy_told d)

unfoldable pub function_by : NameFacts → List Bytes → Heading → (Bytes → Option Procedure) → Contents → List CStmt → CFunction
function_by table names heading procedures c body = record {
  result = result_by (basic_told table heading.role heading.name.now);
  name = name_told heading.role heading.name.now;
  params = map parameter_told heading.dummies.items;
  locals = locals_by table names (basic_told table heading.role heading.name.now) (map bound_told heading.bounds.items) procedures c;
  body = body;
}

unfoldable pub functions_opened : Unit {0}
unfolding kinds_at body_by local_of local_if calls_by locals_by name_told basic_told function_by
functions_opened = tt
