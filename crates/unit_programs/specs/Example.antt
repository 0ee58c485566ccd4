-- A main program in a file of its own, and a function and a subroutine in another one, with their lowered texts and their functions in C:
--     K = F(2); CALL S(K); WRITE (6, *) K; END
-- and
--     INTEGER FUNCTION F(N); F = N; END
--     SUBROUTINE S(N); N = N + 1; END
use Rattle.std.specs.Fmt.{digits}
use Rattle.std.specs.Prelude.{ℕ, zero, suc, pos, false, ℤ, List, [], ◌∷◌, Option, Some, None, option_map, bytes_eq, codes, if◌then◌else◌}
use Rattle.emitted_procedures.specs.f_tree.declared.names.Basic.{Basic}
use Rattle.emitted_procedures.specs.f_tree.declared.names.Basic.TheVariants.{Integer, Untyped}
use Rattle.emitted_procedures.specs.f_tree.declared.names.Class.TheVariants as class
use Rattle.emitted_procedures.specs.f_tree.Values.{Bytes, IsInt, in_range}
use Rattle.emitted_procedures.specs.f_tree.Terms.{Add, AsFunction, Val, Fetch, At, Between, Refer, NoMore, More, terms_opened}
use Rattle.emitted_procedures.specs.f_tree.Facts.{Output, Listed, UnitWord, Controls, Item, Done, Before, Attribute, Named, MainProgram, FunctionUnit, SubroutineUnit, UnitKind, EntryPoint, Member, ToSet, ToCall, ToBegin, ToEnd, Form, On, Plain, NoLoop, Line, ProgramUnit, Facts}
use Rattle.emitted_procedures.specs.f_tree.Places.{place_of_label, places_opened}
use Rattle.emitted_procedures.specs.f_tree.Meaning.{facts_at, found_from, answers_to, is_main, has_entry}
use Rattle.emitted_procedures.specs.f_tree.Nests.{nests_opened}
use Rattle.emitted_procedures.specs.f_tree.Valuing.{valuing_opened}
use Rattle.emitted_procedures.specs.f_tree.CNames.{main_name, external_name, has_underscore, c_keywords, built_in_names, field_names, single_letters, is_reserved, takes_underscores, variable_name, constant_name, made_name}
use Rattle.emitted_procedures.specs.l_core.Pures.{Constant, Temporary, Load, Name, Operated, NoPure, AndPure}
use Rattle.emitted_procedures.specs.l_core.Steps.{Starts, Takes, Finishes, Step, Put, CallFor, CallSub, Back, Acts, Text}
use Rattle.unit_forms.specs.lowering.Expressions.{expressions_opened}
use Rattle.unit_forms.specs.lowering.Statements.{statements_opened}
use Rattle.unit_forms.specs.lowering.Units.{start_of, lines_marks, units_opened}
use Rattle.unit_forms.specs.lowering_laws.Layout.{layout_opened}
use Rattle.emitted_procedures.specs.c_tree.declared.types.NumberType.TheVariants as number_type
use Rattle.emitted_procedures.specs.c_tree.declared.types.ResultType.TheVariants as result
use Rattle.emitted_procedures.specs.c_tree.declared.types.ParameterType.TheVariants as parameter
use Rattle.emitted_procedures.specs.c_tree.declared.types.ArgumentType.TheVariants as argument
use Rattle.emitted_procedures.specs.c_tree.declared.types.CastType.TheVariants as to
use Rattle.emitted_procedures.specs.c_tree.declared.types.ListType.TheVariants as list_type
use Rattle.emitted_procedures.specs.c_tree.declared.expression.UnaryOp.TheVariants as prefix
use Rattle.emitted_procedures.specs.c_tree.declared.expression.BinaryOp.TheVariants as op
use Rattle.emitted_procedures.specs.c_tree.declared.expression.CExpr.{CExpr}
use Rattle.emitted_procedures.specs.c_tree.declared.expression.CExpr.TheVariants as expr
use Rattle.emitted_procedures.specs.c_tree.declared.expression.CCall.{CCall}
use Rattle.emitted_procedures.specs.c_tree.declared.statement.CStmt.{CStmt}
use Rattle.emitted_procedures.specs.c_tree.declared.statement.CStmt.TheVariants as stmt
use Rattle.emitted_procedures.specs.c_tree.Access.{ToNumber, ToPointer, ToList}
use Rattle.emitted_procedures.specs.c_tree.Terms as c
use Rattle.emitted_procedures.specs.c_tree.Terms.{Term}
use Rattle.emitted_procedures.specs.c_tree.Flat.{Flat, Assign, Invoke, Ignored, Kept, Direct, Return}
use Rattle.emitted_procedures.specs.faithful.StorageImage.{function_name}
use Rattle.unit_forms.specs.c_structure.Expressions as written
use Rattle.unit_forms.specs.c_structure.Statements as built
use Rattle.unit_forms.specs.c_structure.Statements.{Outline}
use Rattle.emitted_procedures.specs.c_emit.Numbers.{numbers_opened}
use Rattle.emitted_procedures.specs.c_emit.Types.{types_opened}
use Rattle.emitted_procedures.specs.c_emit.Calls.{address_of, calls_opened}
use Rattle.emitted_procedures.specs.c_emit.Flats.{flats_opened}
use Rattle.emitted_procedures.specs.emitted_texts.Emitted.{leads, stage_behind, is_of_output}
use Rattle.emitted_procedures.specs.procedure_emission.ProcedureItems.{procedure_items_opened}
use Rattle.emitted_procedures.specs.procedure_emission.Reading.{reading_opened}
use Rattle.emitted_procedures.specs.procedure_emission.EmittedUnits.{leads_on, is_return, is_number_pointer, number_result}
use Rattle.unit_forms.specs.main_file.MainItems.{item_before, stops_from}
use Rattle.unit_file_laws.specs.unit_file.UnitFile.{Inventory, WrittenUnit, unit_file_opened}
use Rattle.unit_file_laws.specs.unit_file.UnitSavings.{unit_savings_opened}
use Rattle.unit_file_laws.specs.unit_file.UnitNames.{names_of, unit_names_opened}
use Rattle.unit_file_laws.specs.unit_sites.UnitSites.{UnitsOfFile, Site}
use Rattle.unit_file_laws.specs.BuiltUnits.{built_units_opened}
use Rattle.behind_bounds.specs.BehindBounds.{behind_bounds_opened}
use Rattle.unit_programs.specs.OwnStorage.{own_setting}
use Rattle.unit_programs.specs.TranslatedUnits.{Rendering}

-- ## The units

abbrev pub the_variable : Bytes
the_variable = codes "k"

abbrev pub the_dummy : Bytes
the_dummy = codes "n"

abbrev pub the_function : Bytes
the_function = codes "f"

abbrev pub the_subroutine : Bytes
the_subroutine = codes "s"

abbrev pub an_integer : Attribute
an_integer = record { basic = Integer; class = class.Stored; width = Some 4; dimensions = []; bounds = []; constant = None; expansion = None }

-- what is not named
abbrev pub no_name : Attribute
no_name = record an_integer { basic = Untyped; class = class.Constant }

abbrev pub main_attribute : Bytes → Attribute
main_attribute x =
    if bytes_eq x the_variable then an_integer
    else if bytes_eq x the_function then record an_integer { class = class.Procedure }
    else if bytes_eq x the_subroutine then record no_name { class = class.Procedure } else no_name

abbrev pub function_attribute : Bytes → Attribute
function_attribute x = if bytes_eq x the_function then record an_integer { class = class.Result } else if bytes_eq x the_dummy then record an_integer { class = class.Dummy } else no_name

abbrev pub subroutine_attribute : Bytes → Attribute
subroutine_attribute x = if bytes_eq x the_dummy then record an_integer { class = class.Dummy } else no_name

abbrev pub line : Form → Line
line form = record { label = None; mark = Plain; loop = NoLoop; card = 1; form = form }

abbrev pub unit_with : UnitKind → EntryPoint → List Line → (Bytes → Attribute) → List Member → ProgramUnit
unit_with kind entry lines attribute stored = record {
  kind = kind;
  entries = entry ∷ [];
  lines = lines;
  attribute = attribute;
  formats = [];
  blocks = [];
  ties = [];
  images = [];
  references = [];
  stored = stored;
  onetrip = false;
}

abbrev pub printing : Controls
printing = record { words = UnitWord ∷ []; on_error = None; on_end = None }

abbrev pub main_unit : ProgramUnit
main_unit =
    unit_with MainProgram (record { name = []; formals = []; start = 0 })
    (line (On ToSet (More (Refer (record { name = the_function; want = AsFunction Integer 4 }) (More (Val (IsInt (pos 2))) NoMore)) (More (At the_variable) NoMore)))
    ∷ line (On (ToCall the_subroutine) (More (At the_variable) NoMore))
    ∷ line (On (ToBegin Output Listed printing (Before (Item (Fetch (At the_variable))) Done)) (More (Val (IsInt (pos 6))) NoMore))
    ∷ line (On ToEnd NoMore)
    ∷ [])
    main_attribute (record { name = the_variable; size = 4 } ∷ [])

abbrev pub function_unit : ProgramUnit
function_unit =
    unit_with FunctionUnit (record { name = the_function; formals = Named the_dummy ∷ []; start = 0 })
    (line (On ToSet (More (Fetch (At the_dummy)) (More (At the_function) NoMore))) ∷ line (On ToEnd NoMore) ∷ [])
    function_attribute []

abbrev pub subroutine_unit : ProgramUnit
subroutine_unit =
    unit_with SubroutineUnit (record { name = the_subroutine; formals = Named the_dummy ∷ []; start = 0 })
    (line (On ToSet (More (Between Add (Fetch (At the_dummy)) (Val (IsInt (pos 1)))) (More (At the_dummy) NoMore))) ∷ line (On ToEnd NoMore) ∷ [])
    subroutine_attribute []

abbrev pub its_units : List ProgramUnit
its_units = main_unit ∷ function_unit ∷ subroutine_unit ∷ []

-- ## Their lowered texts

unfoldable pub its_facts : ℕ → ProgramUnit → Facts
its_facts j unit = facts_at (own_setting its_units) j (Some unit)

abbrev pub text_with : ℕ → ProgramUnit → List Step → Text
text_with j unit steps = record {
  facts = its_facts j unit;
  steps = steps;
  begins = start_of unit;
  position = λ label. option_map (start_of unit) (place_of_label unit label);
  marks = lines_marks unit 0 unit.lines;
}

abbrev pub main_steps : List Step
main_steps =
    CallFor 0 (record { name = the_function; want = AsFunction Integer 4 }) (AndPure (Constant (IsInt (pos 2))) NoPure)
    ∷ Put (Name the_variable) (Temporary 0)
    ∷ CallSub 0 the_subroutine (AndPure (Name the_variable) NoPure)
    ∷ Acts (Starts Output Listed printing) (AndPure (Constant (IsInt (pos 6))) NoPure) 2
    ∷ Acts Takes (AndPure (Load (Name the_variable)) NoPure) 1
    ∷ Acts Finishes NoPure 0
    ∷ Back
    ∷ []

abbrev pub function_steps : List Step
function_steps = Put (Name the_function) (Load (Name the_dummy)) ∷ Back ∷ []

abbrev pub subroutine_steps : List Step
subroutine_steps = Put (Name the_dummy) (Operated Add (Load (Name the_dummy)) (Constant (IsInt (pos 1)))) ∷ Back ∷ []

-- before the second step the temporary holds an integer; the output goes on between the steps that begin and end it
abbrev pub main_kind : ℕ → ℕ → Option Basic
main_kind (suc zero) zero = Some Integer
main_kind n k = None

abbrev pub main_stage : ℕ → Option ℤ
main_stage (suc (suc (suc (suc zero)))) = Some (pos 6)
main_stage (suc (suc (suc (suc (suc zero))))) = Some (pos 6)
main_stage n = None

-- ## Their functions

-- those of the first file; the other one has none
abbrev pub its_constants : List ℤ
its_constants = pos 1 ∷ pos 2 ∷ pos 3 ∷ []

abbrev pub main_inventory : Inventory
main_inventory = record {
  name = codes "MAIN__";
  result = result.Int;
  parameters = [];
  returned = None;
  variables = record { name = the_variable; type = number_type.Integer; count = None } ∷ [];
  lists = record { step = 3; unit = pos 6 } ∷ [];
  temporaries = 1;
  bounds = [];
  calls =
      record { name = codes "f_"; result = result.Integer; arguments = argument.Parameter parameter.Integers ∷ [] }
      ∷ record { name = codes "s_"; result = result.Int; arguments = argument.Parameter parameter.Integers ∷ [] }
      ∷ record { name = codes "s_wsle"; result = result.Integer; arguments = argument.List list_type.Transfer ∷ [] }
      ∷ record {
        name = codes "do_lio";
        result = result.Integer;
        arguments = argument.Parameter parameter.Integers ∷ argument.Parameter parameter.Integers ∷ argument.Parameter parameter.Chars ∷ argument.Parameter parameter.Length ∷ [];
      }
      ∷ record { name = codes "e_wsle"; result = result.Integer; arguments = [] }
      ∷ [];
  strings = [];
  texts = λ n. [];
}

abbrev pub function_inventory : Inventory
function_inventory = record {
  name = codes "f_";
  result = result.Integer;
  parameters = record { name = the_dummy; type = parameter.Integers } ∷ [];
  returned = Some number_type.Integer;
  variables = [];
  lists = [];
  temporaries = 0;
  bounds = [];
  calls = [];
  strings = [];
  texts = λ n. [];
}

abbrev pub subroutine_inventory : Inventory
subroutine_inventory = record function_inventory { name = codes "s_"; result = result.Int; returned = None }

abbrev pub its_inventories : List Inventory
its_inventories = main_inventory ∷ function_inventory ∷ subroutine_inventory ∷ []

-- the objects of the first file are the constants, the variable, the control list and the temporary; those of the other one are the parameter and the result of
-- the function, and the parameter of the subroutine
abbrev pub main_site : Site
main_site = record { constants = its_constants; bases = record { own = 3; file = 0; function = 3 } }

abbrev pub function_site : Site
function_site = record { constants = []; bases = record { own = 3; file = 6; function = 6 } }

abbrev pub subroutine_site : Site
subroutine_site = record { constants = []; bases = record { own = 3; file = 6; function = 8 } }

abbrev pub main_items : List Flat
main_items =
    Invoke (Kept (c.Variable 5 ToNumber)) (Direct 1) (address_of (c.Variable 1 ToNumber) ∷ [])
    ∷ Assign (c.Variable 3 ToNumber) (c.Variable 5 ToNumber)
    ∷ Invoke Ignored (Direct 2) (address_of (c.Variable 3 ToNumber) ∷ [])
    ∷ Invoke Ignored (Direct 17) (address_of (c.Variable 4 (ToList list_type.Transfer)) ∷ [])
    ∷ Invoke Ignored (Direct 24) (address_of (c.Variable 2 ToNumber) ∷ address_of (c.Variable 0 ToNumber) ∷ c.Cast to.Chars (address_of (c.Variable 3 ToNumber)) ∷ c.Cast to.Length c.Size ∷ [])
    ∷ Invoke Ignored (Direct 27) []
    ∷ Return (Some (c.Constant (pos 0)))
    ∷ []

abbrev pub where_it_points : ℕ → Term
where_it_points parameter = c.Prefixed prefix.Deref (c.Variable parameter (ToPointer ToNumber))

abbrev pub function_items : List Flat
function_items = Assign (c.Variable 7 ToNumber) (where_it_points 6) ∷ Return (Some (c.Variable 7 ToNumber)) ∷ []

abbrev pub subroutine_items : List Flat
subroutine_items = Assign (where_it_points 8) (c.Between op.Add (where_it_points 8) (c.Constant (pos 1))) ∷ Return (Some (c.Constant (pos 0))) ∷ []

abbrev pub address : List ℕ → CExpr
address name = expr.Unary prefix.Address (expr.Name name)

abbrev pub pointed : List ℕ → CExpr
pointed name = expr.Unary prefix.Deref (expr.Name name)

abbrev pub call : List ℕ → List CExpr → CCall
call name arguments = record { through = false; name = name; arguments = arguments }

abbrev pub main_body : List CStmt
main_body =
    stmt.SetCall (expr.Name (codes "i__1")) (call (codes "f_") (address (codes "c__2") ∷ []))
    ∷ stmt.Set (expr.Name (codes "k")) (expr.Name (codes "i__1"))
    ∷ stmt.Call (call (codes "s_") (address (codes "k") ∷ []))
    ∷ stmt.Call (call (codes "s_wsle") (address (codes "io___1") ∷ []))
    ∷ stmt.Call (call (codes "do_lio") (address (codes "c__3") ∷ address (codes "c__1") ∷ expr.Cast to.Chars (address (codes "k")) ∷ expr.Cast to.Length expr.SizeInt ∷ []))
    ∷ stmt.Call (call (codes "e_wsle") [])
    ∷ stmt.Return (Some (expr.Number (pos 0)))
    ∷ []

abbrev pub function_body : List CStmt
function_body = stmt.Set (expr.Name (codes "ret_val")) (pointed (codes "n")) ∷ stmt.Return (Some (expr.Name (codes "ret_val"))) ∷ []

abbrev pub subroutine_body : List CStmt
subroutine_body = stmt.Set (pointed (codes "n")) (expr.Binary op.Add (pointed (codes "n")) (expr.Number (pos 1))) ∷ stmt.Return (Some (expr.Number (pos 0))) ∷ []

abbrev pub outline_for : Site → Inventory → Outline
outline_for s v = record { names = names_of s.constants its_inventories v s.bases; label = λ n. None; ends_arm = λ n. false; loop = λ n. None }

abbrev pub main_written : WrittenUnit
main_written = record { inventory = main_inventory; body = main_body }

abbrev pub function_written : WrittenUnit
function_written = record { inventory = function_inventory; body = function_body }

abbrev pub subroutine_written : WrittenUnit
subroutine_written = record { inventory = subroutine_inventory; body = subroutine_body }

abbrev pub its_files : List UnitsOfFile
its_files = record { constants = its_constants; units = main_written ∷ [] } ∷ record { constants = []; units = function_written ∷ subroutine_written ∷ [] } ∷ []

abbrev pub main_rendering : Rendering
main_rendering = record {
  unit = main_unit;
  text = text_with 0 main_unit main_steps;
  written = main_written;
  site = main_site;
  kind = main_kind;
  stage = main_stage;
  outline = outline_for main_site main_inventory;
  items = main_items;
}

abbrev pub function_rendering : Rendering
function_rendering = record {
  unit = function_unit;
  text = text_with 1 function_unit function_steps;
  written = function_written;
  site = function_site;
  kind = λ n k. None;
  stage = λ n. None;
  outline = outline_for function_site function_inventory;
  items = function_items;
}

abbrev pub subroutine_rendering : Rendering
subroutine_rendering = record {
  unit = subroutine_unit;
  text = text_with 2 subroutine_unit subroutine_steps;
  written = subroutine_written;
  site = subroutine_site;
  kind = λ n k. None;
  stage = λ n. None;
  outline = outline_for subroutine_site subroutine_inventory;
  items = subroutine_items;
}

abbrev pub its_renderings : List Rendering
its_renderings = main_rendering ∷ function_rendering ∷ subroutine_rendering ∷ []

-- `unfolding example_opened` opens what the example is computed by
unfoldable pub example_opened : Unit {0}
unfolding its_facts facts_at found_from answers_to is_main has_entry terms_opened places_opened nests_opened valuing_opened expressions_opened statements_opened units_opened layout_opened digits main_name external_name has_underscore c_keywords built_in_names field_names single_letters is_reserved takes_underscores variable_name constant_name made_name function_name written.expressions_opened built.statements_opened item_before stops_from in_range numbers_opened types_opened calls_opened flats_opened procedure_items_opened reading_opened leads leads_on is_return stage_behind is_of_output is_number_pointer number_result unit_file_opened unit_savings_opened unit_names_opened built_units_opened behind_bounds_opened
example_opened = tt
