-- What is answered for the units of a set: what each is lowered to, the procedures, the functions, and the C files. ANSI X3.9-1978, sections 2.4, 3.5, 15.5
-- and 15.6; C89, 3.7.
use Rattle.std.specs.Prelude.{◌≡◌, ℕ, ℤ, Bool, true, false, ◌&&◌, List, [], ◌∷◌, ◌++◌, map, length, Option, Some, None, option_map, option_and_then, Result, Ok, Err, bytes_eq, if◌then◌else◌}
use Rattle.std.specs.Global.{Vec}
use Rattle.f_tree.specs.declared.names.Basic.{Basic}
use Rattle.f_tree.specs.declared.names.Options.{Options}
use Rattle.f_tree.specs.declared.refusals.Fail.{Fail}
use Rattle.f_tree.specs.declared.refusals.Fail.TheVariants as fail
use Rattle.f_tree.specs.declared.refusals.Refusal.{Refusal}
use Rattle.f_tree.specs.declared.units.File.{File}
use Rattle.f_tree.specs.declared.units.Unit.{Unit as GivenUnit}
use Rattle.f_tree.specs.Values.{Bytes}
use Rattle.f_tree.specs.CNames.{external_name}
use Rattle.declaration_rows.specs.GlobalRows.{all_units}
use Rattle.declaration_rows.specs.Verdicts.{first_of}
use Rattle.c_tree.specs.declared.types.ResultType.{ResultType}
use Rattle.c_tree.specs.declared.types.ResultType.TheVariants as result
use Rattle.c_tree.specs.declared.types.ParameterType.{ParameterType}
use Rattle.c_tree.specs.declared.types.ArgumentType.TheVariants as argument
use Rattle.c_tree.specs.declared.file.CFile.{CFile}
use Rattle.c_tree.specs.declared.file.CFunction.{CFunction}
use Rattle.procedure_emission.specs.EmittedUnits.{number_result}
use Rattle.name_facts.specs.GivenFacts.{fact_in}
use Rattle.unit_translation.specs.unit_file.UnitFile.{Callee, unit_function}
use Rattle.unit_translation.specs.UnitContents.{LoweredUnit, constants_passed, inventory_of}
use Rattle.unit_translation.specs.UnitBodies.{all_lowered}
use Rattle.unit_writer.specs.declared.heading.UnitRole.{UnitRole}
use Rattle.unit_writer.specs.declared.heading.UnitRole.TheVariants as role
use Rattle.unit_writer.specs.declared.heading.Dummy.{Dummy}
use Rattle.unit_writer.specs.declared.heading.Procedure.{Procedure}
use Rattle.unit_writer.specs.ToldUnits.{TellsProcedures}
use Rattle.unit_translation.specs.unit_sites.UnitSites.{file_for, files_of as c_files}
use Rattle.unit_writer.specs.named_units.NamedUnits.{named_body_of, named_from, named_file_of, named_files_from, named_files}
use Rattle.translated_files.specs.TranslatedFiles.{procedure_names, lowered_from, lowered_files, form_row, rows_of_lowering, rows_of_bodies, rows_of_files, units_not_translated}
use Rattle.translator.specs.declared.unit.PlainUnit.{PlainUnit}
use Rattle.translator.specs.UnitFiles.{IsToldAs, IsUnitIf}

-- ## Lowered units

-- each tells what the unit at its place is
pub data AreTold : List LoweredUnit → List PlainUnit → Type 0 where
  none_told : AreTold [] []
  more_told : (u : LoweredUnit) (plain : PlainUnit) (us : List LoweredUnit) (plains : List PlainUnit) → IsToldAs u plain → AreTold us plains → AreTold (u ∷ us) (plain ∷ plains)

-- they tell what some units are
pub record EachIsKnown (plains : List PlainUnit) : Type 0 where
  pub units : List LoweredUnit
  pub told : AreTold units plains

abbrev pub units_given : List PlainUnit → List GivenUnit
units_given plains = map (λ (plain : PlainUnit). plain.unit.now) plains

-- a unit is put behind those before it, or its row is given
pub record AddsPlain (options : Options) (procedures : List Bytes) (u : GivenUnit) (before after : List PlainUnit) : Type 0 where
  pub plain : PlainUnit
  pub put : after ≡ before ++ plain ∷ []
  pub is : IsUnitIf options procedures u (Some plain)

pub record IsRowOf (options : Options) (procedures : List Bytes) (u : GivenUnit) (r : Refusal) : Type 0 where
  pub row : r ≡ form_row u u.statements
  pub is : IsUnitIf options procedures u None

unfoldable pub AddsUnit : Options → List Bytes → GivenUnit → List PlainUnit → List PlainUnit → Option Refusal → Type 0
AddsUnit options procedures u before after None = AddsPlain options procedures u before after
AddsUnit options procedures u before after (Some row) = IsRowOf options procedures u row

-- all units are lowered, and what tells of them is put behind those before
pub record ArePut (options : Options) (all : List GivenUnit) (j : ℕ) (units : List GivenUnit) (before after : List PlainUnit) : Type 0 where
  pub lowered : List LoweredUnit
  pub were : lowered_from options all j units ≡ Some lowered
  pub plains : List PlainUnit
  pub put : after ≡ before ++ plains
  pub told : AreTold lowered plains
  pub given : units_given plains ≡ units

-- some of all units, from a number on: the first of their rows, and where there is none they are put
pub record WereAdded (options : Options) (all : List GivenUnit) (j : ℕ) (units : List GivenUnit) (before after : List PlainUnit) (first : Option Refusal) : Type 0 where
  pub rows : first_of (rows_of_lowering options all j units) ≡ first
  pub lowered : first ≡ None → ArePut options all j units before after

pub record AddsUnits (options : Options) (procedures : List Bytes) (units : List GivenUnit) (before after : List PlainUnit) (first : Option Refusal) : Type 0 where
  pub added : (all : List GivenUnit) (j : ℕ) → procedure_names all ≡ procedures → WereAdded options all j units before after first

-- how many units each file has
abbrev pub many_of : List File → List ℕ
many_of files = map (λ (f : File). length f.units) files

-- the units of all files are lowered, and these tell what they are
pub record WereLowered (options : Options) (files : List File) (plains : List PlainUnit) : Type 0 where
  pub lowered : List (List LoweredUnit)
  pub were : lowered_files options (all_units files) 0 files ≡ Some lowered
  pub many : map length lowered ≡ many_of files
  pub told : AreTold (all_lowered lowered) plains
  pub given : units_given plains ≡ all_units files

unfoldable pub AreUnitsOf : Options → List Bytes → List File → Result (Vec PlainUnit) Fail → Type 0
AreUnitsOf options procedures files (Ok plains) = procedure_names (all_units files) ≡ procedures → WereLowered options files plains.items
AreUnitsOf options procedures files (Err (fail.Refused r)) =
    procedure_names (all_units files) ≡ procedures → first_of (rows_of_lowering options (all_units files) 0 (all_units files)) ≡ Some r
AreUnitsOf options procedures files (Err fail.NoMemory) = Unit {0}

-- ## Procedures

unfoldable pub is_called : UnitRole → Bool
is_called role.Main = false
is_called role.Subroutine = true
is_called role.Function = true

unfoldable pub result_for : UnitRole → Basic → ResultType
result_for role.Main basic = result.Int
result_for role.Subroutine basic = result.Int
result_for role.Function basic = number_result basic

unfoldable pub result_in : PlainUnit → ResultType
result_in plain = result_for plain.heading.role (fact_in plain.table plain.heading.name.now).basic

abbrev pub parameters_told : List Dummy → List ParameterType
parameters_told dummies = map (λ (d : Dummy). d.parameter) dummies

pub record IsProcedureOf (plain : PlainUnit) (procedure : Procedure) : Type 0 where
  pub result : procedure.result ≡ result_in plain
  pub parameters : procedure.parameters.items ≡ parameters_told plain.heading.dummies.items

-- the function of a unit that is called by a name
unfoldable pub own_callees : PlainUnit → Bytes → List Callee
own_callees plain x =
    if is_called plain.heading.role && bytes_eq plain.heading.name.now x then
    record { name = external_name x; result = result_in plain; arguments = map argument.Parameter (parameters_told plain.heading.dummies.items) } ∷ []
    else []

-- of two with one name the first
unfoldable pub added : List Callee → List Callee → List Callee
added [] later = later
added (c ∷ cs) later = c ∷ cs

-- ## Answers

-- it is made, and there is no row
pub record IsMade (A : Type 0) (rows : List Refusal) (o : Option A) (a : A) : Type 0 where
  pub made : o ≡ Some a
  pub no_row : first_of rows ≡ None

-- it is made, or the first of the rows is given
unfoldable pub IsAnswer : (A : Type 0) → List Refusal → Option A → Result A Fail → Type 0
IsAnswer A rows o (Ok a) = IsMade A rows o a
IsAnswer A rows o (Err (fail.Refused r)) = first_of rows ≡ Some r
IsAnswer A rows o (Err fail.NoMemory) = Unit {0}

-- ## Functions

-- when this is the function of a unit, given the constants of its file
pub record IsFunctionOf (plain : PlainUnit) (procedures : Bytes → Option Procedure) (constants : List ℤ) (function : Option CFunction) : Type 0 where
  pub meant : (all : List LoweredUnit) (u : LoweredUnit) → IsToldAs u plain → TellsProcedures all procedures
      → function ≡ option_map (λ body. unit_function (record { inventory = inventory_of all u; body = body })) (named_body_of constants all u)

-- a function is put behind those before it, or the row of the unit is given
pub record PutsFunction (plain : PlainUnit) (procedures : Bytes → Option Procedure) (constants : List ℤ) (before after : List CFunction) : Type 0 where
  pub function : CFunction
  pub put : after ≡ before ++ function ∷ []
  pub is : IsFunctionOf plain procedures constants (Some function)

pub record HasNoFunction (plain : PlainUnit) (procedures : Bytes → Option Procedure) (constants : List ℤ) (r : Refusal) : Type 0 where
  pub row : r ≡ form_row plain.unit.now plain.unit.now.statements
  pub is : IsFunctionOf plain procedures constants None

unfoldable pub AddsFunction : PlainUnit → (Bytes → Option Procedure) → List ℤ → List CFunction → List CFunction → Option Refusal → Type 0
AddsFunction plain procedures constants before after None = PutsFunction plain procedures constants before after
AddsFunction plain procedures constants before after (Some row) = HasNoFunction plain procedures constants row

-- the functions of units of one file, whose constants are given
unfoldable pub functions_for : List ℤ → List LoweredUnit → List LoweredUnit → Option (List CFunction)
functions_for constants all us = option_map (map unit_function) (named_from constants all us)

unfoldable pub list_of : Result (Vec CFunction) Fail → Result (List CFunction) Fail
list_of (Ok functions) = Ok functions.items
list_of (Err e) = Err e

pub record AreFunctionsOf (plains : List PlainUnit) (procedures : Bytes → Option Procedure) (constants : List ℤ) (result : Result (Vec CFunction) Fail) : Type 0 where
  pub meant : (all us : List LoweredUnit) → AreTold us plains → TellsProcedures all procedures
      → IsAnswer (List CFunction) (rows_of_bodies constants all us (units_given plains)) (functions_for constants all us) (list_of result)

-- ## Files

-- when this is answered for the units of a file, given the procedures of the set
pub record IsWrittenFile (plains : List PlainUnit) (procedures : Bytes → Option Procedure) (result : Result CFile Fail) : Type 0 where
  pub meant : (all us : List LoweredUnit) → AreTold us plains → TellsProcedures all procedures
      → IsAnswer CFile (rows_of_bodies (constants_passed us) all us (units_given plains)) (option_map file_for (named_file_of all us)) result

-- a file is put behind those before it, or the first of the rows of its units is given
pub record PutsFile (plains : List PlainUnit) (procedures : Bytes → Option Procedure) (before after : List CFile) : Type 0 where
  pub file : CFile
  pub put : after ≡ before ++ file ∷ []
  pub is : IsWrittenFile plains procedures (Ok file)

unfoldable pub AddsFile : List PlainUnit → (Bytes → Option Procedure) → List CFile → List CFile → Option Refusal → Type 0
AddsFile plains procedures before after None = PutsFile plains procedures before after
AddsFile plains procedures before after (Some r) = IsWrittenFile plains procedures (Err (fail.Refused r))

unfoldable pub AreFilesBy : List LoweredUnit → List (List LoweredUnit) → List File → Result (List CFile) Fail → Type 0
AreFilesBy all lfs files result = IsAnswer (List CFile) (rows_of_files all lfs files) (option_map c_files (named_files_from all lfs)) result

-- when these are answered for the units of a set, given its procedures
pub record AreFilesOf (files : List File) (plains : List PlainUnit) (procedures : Bytes → Option Procedure) (result : Result (List CFile) Fail) : Type 0 where
  pub meant : (all : List LoweredUnit) (lfs : List (List LoweredUnit)) → AreTold (all_lowered lfs) plains → map length lfs ≡ many_of files → TellsProcedures all procedures
      → AreFilesBy all lfs files result

pub record AreWrittenFiles (files : List File) (plains : List PlainUnit) (result : Result (List CFile) Fail) : Type 0 where
  pub meant : (lfs : List (List LoweredUnit)) → AreTold (all_lowered lfs) plains → map length lfs ≡ many_of files → AreFilesBy (all_lowered lfs) lfs files result

-- and for a set
unfoldable pub AreTranslatedUnits : Options → List File → Result (List CFile) Fail → Type 0
AreTranslatedUnits options files result =
    IsAnswer (List CFile) (units_not_translated options files) (option_map c_files (option_and_then named_files (lowered_files options (all_units files) 0 files))) result

unfoldable pub lowered_files_opened : Unit {0}
unfolding AddsUnit AreUnitsOf is_called result_for result_in own_callees added IsAnswer AddsFunction functions_for list_of AddsFile AreFilesBy AreTranslatedUnits
lowered_files_opened = tt
