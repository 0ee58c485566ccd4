-- When a C function is the one that is written for a unit among several, whatever the unit and the others are of which the table, the heading, the
-- procedures, the constants, the text and the contents tell, where the text stands behind what the unit keeps of its dummy arrays. ANSI X3.9-1978, sections
-- 2.4, 5, 15.5, 15.6 and 15.9; C89, 3.7.1; CSTR 149.
use Rattle.std.specs.List.{list_any}
use Rattle.std.specs.Prelude.{◌≡◌, ◌≤◌, ℤ, Bool, true, false, List, [], ◌∷◌, map, length, Option, Some, None, option_map, bytes_eq, if◌then◌else◌}
use Rattle.f_tree.specs.declared.names.Basic.TheVariants.{Untyped}
use Rattle.f_tree.specs.declared.names.Class.{Class}
use Rattle.f_tree.specs.declared.names.Class.TheVariants as class
use Rattle.f_tree.specs.Values.{Bytes}
use Rattle.f_tree.specs.Facts.{Attribute, Member, UnitKind, MainProgram, SubroutineUnit, FunctionUnit, EntryPoint}
use Rattle.f_tree.specs.CNames.{external_name}
use Rattle.lowered_tree.specs.Shapes.{pure_of}
use Rattle.c_tree.specs.declared.types.ArgumentType.TheVariants as argument
use Rattle.c_tree.specs.declared.file.CFunction.{CFunction}
use Rattle.lowered_text.specs.declared.text.LoweredText.{LoweredText}
use Rattle.lowered_text.specs.Texts.{IsText}
use Rattle.name_facts.specs.declared.table.NameFacts.{NameFacts}
use Rattle.name_facts.specs.GivenFacts.{IsNameFact, fact_in}
use Rattle.unit_translation.specs.unit_file.UnitFile as file
use Rattle.unit_translation.specs.unit_file.UnitFile.{Parameter, Callee, unit_function}
use Rattle.unit_translation.specs.UnitContents.{LoweredUnit, bounds_kept, whole_text, inventory_of, parameters_in, procedure_callee}
use Rattle.named_units.specs.NamedUnits.{named_body_of}
use Rattle.unit_contents.specs.declared.contents.Contents.{Contents}
use Rattle.unit_contents.specs.ContentsOf.{AreContents}
use Rattle.unit_writer.specs.declared.heading.UnitRole.{UnitRole}
use Rattle.unit_writer.specs.declared.heading.UnitRole.TheVariants as role
use Rattle.unit_writer.specs.declared.heading.BoundKind.{BoundKind}
use Rattle.unit_writer.specs.declared.heading.BoundKind.TheVariants as bound
use Rattle.unit_writer.specs.declared.heading.KeptBound.{KeptBound}
use Rattle.unit_writer.specs.declared.heading.Dummy.{Dummy}
use Rattle.unit_writer.specs.declared.heading.Heading.{Heading}
use Rattle.unit_writer.specs.declared.heading.Procedure.{Procedure}

-- is it the class of a name that stands in storage
unfoldable pub is_stored_class : Class → Bool
is_stored_class class.Stored = true
is_stored_class _ = false

-- of some names, those that stand in storage
unfoldable pub stored_names : NameFacts → List Bytes → List Bytes
stored_names table [] = []
stored_names table (x ∷ xs) = if is_stored_class (fact_in table x).class then x ∷ stored_names table xs else stored_names table xs

-- what a name is that is none of the unit
pub record IsNoName (a : Attribute) : Type 0 where
  pub class : a.class ≡ class.Unit
  pub basic : a.basic ≡ Untyped
  pub dimensions : a.dimensions ≡ []
  pub bounds : a.bounds ≡ []

unfoldable pub kind_told : UnitRole → UnitKind
kind_told role.Main = MainProgram
kind_told role.Subroutine = SubroutineUnit
kind_told role.Function = FunctionUnit

abbrev pub dummy_told : Dummy → Parameter
dummy_told d = record { name = d.name.now; type = d.parameter }

unfoldable pub bound_kind_told : BoundKind → file.BoundKind
bound_kind_told bound.Lower = file.LowerOf
bound_kind_told bound.Size = file.SizeOf

abbrev pub bound_told : KeptBound → file.KeptBound
bound_told one = record { dummy = one.dummy.now; place = one.place; kind = bound_kind_told one.kind; value = pure_of one.value }

-- the names of the unit are these, in their order, the table tells what each name is, and the heading what the unit is, its one name, its dummies, and what
-- it keeps of these
pub record IsToldUnit (table : NameFacts) (names : List Bytes) (heading : Heading) (u : LoweredUnit) : Type 0 where
  pub kind : u.unit.kind ≡ kind_told heading.role
  pub entries : map (λ (entry : EntryPoint). entry.name) u.unit.entries ≡ heading.name.now ∷ []
  pub dummies : map dummy_told heading.dummies.items ≡ parameters_in u
  pub facts : (x : Bytes) → IsNameFact (u.unit.attribute x) (fact_in table x)
  pub others : (x : Bytes) → list_any (bytes_eq x) names ≡ false → IsNoName (u.unit.attribute x)
  -- no array has more constant bounds than dimensions (5.1.1)
  pub few : (x : Bytes) → length (u.unit.attribute x).bounds ≤ length (u.unit.attribute x).dimensions
  pub bounds : map bound_told heading.bounds.items ≡ bounds_kept u.unit
  pub stored : map (λ (m : Member). m.name) u.unit.stored ≡ stored_names table names

-- the function that is declared for a name, where there is a procedure of this name
abbrev pub callee_told : Bytes → Procedure → Callee
callee_told x p = record { name = external_name x; result = p.result; arguments = map argument.Parameter p.parameters.items }

unfoldable pub callees_by : Bytes → Option Procedure → List Callee
callees_by x None = []
callees_by x (Some p) = callee_told x p ∷ []

abbrev pub callees_told : (Bytes → Option Procedure) → Bytes → List Callee
callees_told procedures x = callees_by x (procedures x)

-- the procedures are those of the units of all files
pub record TellsProcedures (us : List LoweredUnit) (procedures : Bytes → Option Procedure) : Type 0 where
  pub told : (x : Bytes) → callees_told procedures x ≡ procedure_callee us x

-- the function is that of the statements which the unit has, given the constants of its file and the units of all files, and none where it has none; the
-- text and the contents are those behind what the unit keeps
pub record IsWrittenUnit (table : NameFacts) (names : List Bytes) (heading : Heading) (procedures : Bytes → Option Procedure) (constants : List ℤ) (t : LoweredText) (c : Contents)
    (function : Option CFunction) : Type 0 where
  pub meant : (us : List LoweredUnit) (u : LoweredUnit) → u.text.facts.program ≡ u.unit → IsToldUnit table names heading u → TellsProcedures us procedures → IsText t (whole_text u)
      → AreContents (whole_text u) c → function ≡ option_map (λ body. unit_function (record { inventory = inventory_of us u; body = body })) (named_body_of constants us u)

unfoldable pub told_units_opened : Unit {0}
unfolding is_stored_class stored_names kind_told bound_kind_told callees_by
told_units_opened = tt
