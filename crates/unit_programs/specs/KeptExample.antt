-- A main program that passes an array to a subroutine in the same file, which keeps the bounds of its dummy array, with their lowered texts and their
-- functions in C:
--     INTEGER K(3); CALL S(K, 3); END
-- and
--     SUBROUTINE S(A, N); INTEGER A(N); A(N) = N; END
-- ANSI X3.9-1978, sections 5.1.1.1 and 5.5.1.
use Rattle.std.specs.Prelude.{ℕ, pos, false, ℤ, List, [], ◌∷◌, Some, None, option_map, bytes_eq, codes, if◌then◌else◌}
use Rattle.emitted_procedures.specs.f_tree.declared.names.Class.TheVariants as class
use Rattle.emitted_procedures.specs.f_tree.Values.{Bytes, IsInt}
use Rattle.emitted_procedures.specs.f_tree.Terms.{Val, Fetch, At, Element, NoMore, More}
use Rattle.emitted_procedures.specs.f_tree.Facts.{Dimension, Attribute, Named, MainProgram, SubroutineUnit, EntryPoint, ToSet, ToCall, ToEnd, On, ProgramUnit, Facts}
use Rattle.emitted_procedures.specs.f_tree.Places.{place_of_label}
use Rattle.emitted_procedures.specs.f_tree.Meaning.{facts_at}
use Rattle.emitted_procedures.specs.l_core.Pures.{Constant, Load, Name, ElementOf, NoPure, AndPure}
use Rattle.emitted_procedures.specs.l_core.Steps.{Step, Put, CallSub, Back, Text}
use Rattle.unit_forms.specs.lowering.Units.{start_of, lines_marks}
use Rattle.emitted_procedures.specs.c_tree.declared.types.NumberType.TheVariants as number_type
use Rattle.emitted_procedures.specs.c_tree.declared.types.ResultType.TheVariants as result
use Rattle.emitted_procedures.specs.c_tree.declared.types.ParameterType.TheVariants as parameter
use Rattle.emitted_procedures.specs.c_tree.declared.types.ArgumentType.TheVariants as argument
use Rattle.emitted_procedures.specs.c_tree.declared.expression.BinaryOp.TheVariants as op
use Rattle.emitted_procedures.specs.c_tree.declared.expression.CExpr.TheVariants as expr
use Rattle.emitted_procedures.specs.c_tree.declared.statement.CStmt.{CStmt}
use Rattle.emitted_procedures.specs.c_tree.declared.statement.CStmt.TheVariants as stmt
use Rattle.emitted_procedures.specs.c_tree.Access.{ToNumber, ToPointer}
use Rattle.emitted_procedures.specs.c_tree.Terms as c
use Rattle.emitted_procedures.specs.c_tree.Flat.{Flat, Assign, Invoke, Ignored, Direct, Return}
use Rattle.unit_forms.specs.c_structure.Statements.{Outline}
use Rattle.emitted_procedures.specs.c_emit.Calls.{address_of}
use Rattle.emitted_procedures.specs.procedure_emission.kept_bounds.KeptBounds.{kept_bounds_opened}
use Rattle.emitted_procedures.specs.procedure_emission.bound_items.BoundItems.{bound_items_opened}
use Rattle.unit_file_laws.specs.unit_file.UnitFile.{LowerOf, SizeOf, KeptBound, Inventory, WrittenUnit}
use Rattle.unit_file_laws.specs.unit_file.UnitNames.{names_of}
use Rattle.unit_file_laws.specs.unit_sites.UnitSites.{UnitsOfFile, Site}
use Rattle.unit_programs.specs.OwnStorage.{own_setting}
use Rattle.unit_programs.specs.TranslatedUnits.{Rendering}
use Rattle.unit_programs.specs.Example.{the_dummy, the_subroutine, an_integer, no_name, line, unit_with, where_it_points, address, pointed, call, example_opened}

-- ## The units

abbrev pub the_array : Bytes
the_array = codes "k"

abbrev pub the_dummy_array : Bytes
the_dummy_array = codes "a"

abbrev pub three : Dimension
three = record { lower = Val (IsInt (pos 1)); upper = Some (Val (IsInt (pos 3))) }

abbrev pub as_many_as_told : Dimension
as_many_as_told = record { lower = Val (IsInt (pos 1)); upper = Some (Fetch (At the_dummy)) }

abbrev pub an_array : Attribute
an_array = record an_integer { dimensions = three ∷ []; bounds = record { lower = pos 1; upper = Some (pos 3) } ∷ [] }

abbrev pub a_dummy_array : Attribute
a_dummy_array = record an_integer { class = class.Dummy; dimensions = as_many_as_told ∷ [] }

abbrev pub caller_attribute : Bytes → Attribute
caller_attribute x = if bytes_eq x the_array then an_array else if bytes_eq x the_subroutine then record no_name { class = class.Procedure } else no_name

abbrev pub keeper_attribute : Bytes → Attribute
keeper_attribute x = if bytes_eq x the_dummy_array then a_dummy_array else if bytes_eq x the_dummy then record an_integer { class = class.Dummy } else no_name

abbrev pub caller_entry : EntryPoint
caller_entry = record { name = []; formals = []; start = 0 }

abbrev pub keeper_entry : EntryPoint
keeper_entry = record { name = the_subroutine; formals = Named the_dummy_array ∷ Named the_dummy ∷ []; start = 0 }

abbrev pub caller_unit : ProgramUnit
caller_unit =
    unit_with MainProgram caller_entry (line (On (ToCall the_subroutine) (More (At the_array) (More (Val (IsInt (pos 3))) NoMore))) ∷ line (On ToEnd NoMore) ∷ []) caller_attribute
    (record { name = the_array; size = 12 } ∷ [])

abbrev pub keeper_unit : ProgramUnit
keeper_unit =
    unit_with SubroutineUnit keeper_entry
    (line (On ToSet (More (Fetch (At the_dummy)) (More (Element the_dummy_array (More (Fetch (At the_dummy)) NoMore)) NoMore))) ∷ line (On ToEnd NoMore) ∷ [])
    keeper_attribute []

abbrev pub kept_units : List ProgramUnit
kept_units = caller_unit ∷ keeper_unit ∷ []

-- ## Their lowered texts

unfoldable pub kept_facts : ℕ → ProgramUnit → Facts
kept_facts j unit = facts_at (own_setting kept_units) j (Some unit)

abbrev pub kept_text : ℕ → ProgramUnit → List Step → Text
kept_text j unit steps = record {
  facts = kept_facts j unit;
  steps = steps;
  begins = start_of unit;
  position = λ label. option_map (start_of unit) (place_of_label unit label);
  marks = lines_marks unit 0 unit.lines;
}

abbrev pub caller_steps : List Step
caller_steps = CallSub 0 the_subroutine (AndPure (Name the_array) (AndPure (Constant (IsInt (pos 3))) NoPure)) ∷ Back ∷ []

abbrev pub keeper_steps : List Step
keeper_steps = Put (ElementOf the_dummy_array (AndPure (Load (Name the_dummy)) NoPure)) (Load (Name the_dummy)) ∷ Back ∷ []

-- ## Their functions

abbrev pub kept_constants : List ℤ
kept_constants = pos 3 ∷ []

abbrev pub caller_inventory : Inventory
caller_inventory = record {
  name = codes "MAIN__";
  result = result.Int;
  parameters = [];
  returned = None;
  variables = record { name = the_array; type = number_type.Integer; count = Some 3 } ∷ [];
  lists = [];
  temporaries = 0;
  bounds = [];
  calls = record { name = codes "s_"; result = result.Int; arguments = argument.Parameter parameter.Integers ∷ argument.Parameter parameter.Integers ∷ [] } ∷ [];
  strings = [];
  texts = λ n. [];
}

-- the lower bound of the array, and its size
abbrev pub kept_bounds_of : List KeptBound
kept_bounds_of =
    record { dummy = the_dummy_array; place = 0; kind = LowerOf; value = Constant (IsInt (pos 1)) }
    ∷ record { dummy = the_dummy_array; place = 0; kind = SizeOf; value = Load (Name the_dummy) }
    ∷ []

abbrev pub keeper_inventory : Inventory
keeper_inventory = record {
  name = codes "s_";
  result = result.Int;
  parameters = record { name = the_dummy_array; type = parameter.Integers } ∷ record { name = the_dummy; type = parameter.Integers } ∷ [];
  returned = None;
  variables = [];
  lists = [];
  temporaries = 0;
  bounds = kept_bounds_of;
  calls = [];
  strings = [];
  texts = λ n. [];
}

abbrev pub kept_inventories : List Inventory
kept_inventories = caller_inventory ∷ keeper_inventory ∷ []

-- the objects are the constant, the array, both parameters and what is kept
abbrev pub caller_site : Site
caller_site = record { constants = kept_constants; bases = record { own = 2; file = 0; function = 1 } }

abbrev pub keeper_site : Site
keeper_site = record { constants = kept_constants; bases = record { own = 2; file = 0; function = 2 } }

abbrev pub caller_items : List Flat
caller_items = Invoke Ignored (Direct 1) (c.Array 1 ToNumber ∷ address_of (c.Variable 0 ToNumber) ∷ []) ∷ Return (Some (c.Constant (pos 0))) ∷ []

abbrev pub keeper_items : List Flat
keeper_items =
    Assign (c.Variable 4 ToNumber) (c.Constant (pos 1))
    ∷ Assign (c.Variable 5 ToNumber) (where_it_points 3)
    ∷ Assign (c.Element (c.Variable 2 (ToPointer ToNumber)) (c.Between op.Subtract (where_it_points 3) (c.Variable 4 ToNumber))) (where_it_points 3)
    ∷ Return (Some (c.Constant (pos 0)))
    ∷ []

abbrev pub caller_body : List CStmt
caller_body = stmt.Call (call (codes "s_") (expr.Name (codes "k") ∷ address (codes "c__3") ∷ [])) ∷ stmt.Return (Some (expr.Number (pos 0))) ∷ []

abbrev pub keeper_body : List CStmt
keeper_body =
    stmt.Set (expr.Name (codes "a_low1")) (expr.Number (pos 1))
    ∷ stmt.Set (expr.Name (codes "a_dim1")) (pointed (codes "n"))
    ∷ stmt.Set (expr.Index (expr.Name (codes "a")) (expr.Binary op.Subtract (pointed (codes "n")) (expr.Name (codes "a_low1")))) (pointed (codes "n"))
    ∷ stmt.Return (Some (expr.Number (pos 0)))
    ∷ []

abbrev pub kept_outline : Site → Inventory → Outline
kept_outline s v = record { names = names_of s.constants kept_inventories v s.bases; label = λ n. None; ends_arm = λ n. false; loop = λ n. None }

abbrev pub caller_written : WrittenUnit
caller_written = record { inventory = caller_inventory; body = caller_body }

abbrev pub keeper_written : WrittenUnit
keeper_written = record { inventory = keeper_inventory; body = keeper_body }

abbrev pub kept_files : List UnitsOfFile
kept_files = record { constants = kept_constants; units = caller_written ∷ keeper_written ∷ [] } ∷ []

abbrev pub caller_rendering : Rendering
caller_rendering = record {
  unit = caller_unit;
  text = kept_text 0 caller_unit caller_steps;
  written = caller_written;
  site = caller_site;
  kind = λ n k. None;
  stage = λ n. None;
  outline = kept_outline caller_site caller_inventory;
  items = caller_items;
}

abbrev pub keeper_rendering : Rendering
keeper_rendering = record {
  unit = keeper_unit;
  text = kept_text 1 keeper_unit keeper_steps;
  written = keeper_written;
  site = keeper_site;
  kind = λ n k. None;
  stage = λ n. None;
  outline = kept_outline keeper_site keeper_inventory;
  items = keeper_items;
}

abbrev pub kept_renderings : List Rendering
kept_renderings = caller_rendering ∷ keeper_rendering ∷ []

-- `unfolding kept_example_opened` opens what the example is computed by
unfoldable pub kept_example_opened : Unit {0}
unfolding example_opened kept_facts kept_bounds_opened bound_items_opened
kept_example_opened = tt
