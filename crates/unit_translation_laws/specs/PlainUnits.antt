-- That units of numbers that call each other run as the C files that are made for them, where each is lowered, and statements are made for its text. What is
-- asked of a unit is said of its statements and its names. ANSI X3.9-1978, sections 2.4, 5, 8, 14, 15 and 17.1; C89, 3.6 and 3.7.
use Rattle.std.specs.Prelude.{◌≡◌, ◌≢◌, ℕ, suc, ◌+◌, ◌<◌, ◌≤◌, ◌^◌, ℤ, true, false, List, [], ◌∷◌, map, length, Some, slice_get}
use Rattle.unit_translation.specs.run_state.Units.{Units}
use Rattle.unit_translation.specs.f_tree.declared.names.Class.TheVariants as class
use Rattle.unit_translation.specs.f_tree.Values.{Bytes, NoMeaning}
use Rattle.unit_translation.specs.f_tree.CNames.{is_name}
use Rattle.unit_translation.specs.f_tree.Facts.{Bounds, Member, Formal, MainProgram, FunctionUnit, BlockDataUnit, ProgramUnit}
use Rattle.unit_translation.specs.f_tree.Setting.{IsIn, IsMember, AreDistinct}
use Rattle.unit_translation.specs.f_tree.Valuing.{elements_of, extent_of}
use Rattle.unit_translation.specs.f_tree.Meaning.{ftn, act_of}
use Rattle.unit_translation.specs.l_core.Steps.{Halt}
use Rattle.unit_translation.specs.l_core.Steps.{Text}
use Rattle.main_translation_laws.specs.lowering.Units.{lowered_unit}
use Rattle.main_translation_laws.specs.lowering_laws.Layout.{are_direct, has_end, LoopsFit}
use Rattle.unit_translation.specs.c_emit.Numbers.{is_numeric}
use Rattle.unit_translation.specs.c_emit_laws.EmittedNumbers.{BoundFits}
use Rattle.unit_translation.specs.faithful.Faithful.{SameRuns}
use Rattle.unit_translation.specs.faithful.StorageImage.{function_name}
use Rattle.unit_translation.specs.faithful.Signatures.{named_formals}
use Rattle.unit_translation.specs.faithful.UnitsAtStart.{AreBytes}
use Rattle.main_translation_laws.specs.linking_laws.Linked as names
use Rattle.unit_programs.specs.unit_forms.OwnSetting.{own_setting, own_facts}
use Rattle.unit_translation.specs.main_translation.Contents.{count_by}
use Rattle.unit_translation.specs.main_translation.Outlined.{labels_in}
use Rattle.unit_translation.specs.procedure_emission.EmittedUnits.{is_number_pointer, is_function_pointer}
use Rattle.unit_translation.specs.procedure_emission.kept_bounds.KeptBounds.{is_adjustable, has_adjustable_bounds}
use Rattle.unit_translation.specs.unit_sites.UnitSites.{UnitsOfFile, files_of}
use Rattle.unit_programs.specs.OwnStorage.{bytes_in}
use Rattle.unit_programs.specs.TranslatedUnits.{AreFixed}
use Rattle.unit_translation.specs.UnitContents.{LoweredUnit, program_units, whole_text, parameter_for, temporaries_kept}
use Rattle.unit_translation.specs.UnitBodies.{all_lowered, written_files}

-- ## Storage and names

-- Integers and logicals, each with storage of its own: no COMMON, EQUIVALENCE or DATA (8.2, 8.3, 9).
pub record HasPlainStorage (unit : ProgramUnit) : Type 0 where
  pub blocks : unit.blocks ≡ []
  pub ties : unit.ties ≡ []
  pub images : unit.images ≡ []
  -- each variable of numbers that is no dummy and no result is stored, under its name alone
  pub stored : (x : Bytes) → (unit.attribute x).class ≡ class.Stored → is_numeric (unit.attribute x).basic ≡ true → IsMember x unit.stored
  pub kept : (m : Member) → IsIn m unit.stored → (unit.attribute m.name).class ≡ class.Stored
  pub distinct : AreDistinct unit.stored
  pub named : (m : Member) → IsIn m unit.stored → is_name m.name ≡ true
  pub numbers : (m : Member) → IsIn m unit.stored → is_numeric (unit.attribute m.name).basic ≡ true
  pub wide : (m : Member) → IsIn m unit.stored → (unit.attribute m.name).width ≡ Some 4
  pub sized : (m : Member) → IsIn m unit.stored → m.size ≡ bytes_in (count_by (unit.attribute m.name).bounds)
  pub within : (m : Member) → IsIn m unit.stored → extent_of (elements_of (unit.attribute m.name).bounds) 4 ≤ m.size
  pub small : (m : Member) → IsIn m unit.stored → m.size < 2147483648

-- bounds are constant but for an upper bound `*` that is the last, and have 32 bits; only of dummy arrays of numbers they may be adjustable
pub record HasPlainBounds (unit : ProgramUnit) : Type 0 where
  pub ranked : (m : Member) → IsIn m unit.stored → length (unit.attribute m.name).bounds ≡ length (unit.attribute m.name).dimensions
  pub counted : (m : Member) (b : Bounds) (bs : List Bounds) → IsIn m unit.stored → (unit.attribute m.name).bounds ≡ b ∷ bs → (n : ℕ) × (elements_of (b ∷ bs) ≡ Some n)
  pub fits : (x : Bytes) (k : ℕ) (b : Bounds) → is_adjustable (unit.attribute x) ≡ false → slice_get (unit.attribute x).bounds k ≡ Some b → BoundFits b
  pub closed : (x : Bytes) (k : ℕ) (b : Bounds) → is_adjustable (unit.attribute x) ≡ false → slice_get (unit.attribute x).bounds k ≡ Some b → suc k < length (unit.attribute x).bounds → (last : ℤ) × (b.upper ≡ Some last)
  pub adjustable : (x : Bytes) → is_adjustable (unit.attribute x) ≡ true → ((unit.attribute x).class ≡ class.Dummy) × (is_numeric (unit.attribute x).basic ≡ true)

-- ## Dummies and results

-- the bounds of a dummy are constant, or a call fixes them (5.5.1)
pub data HasDummyBounds (us : List LoweredUnit) (j : ℕ) (u : LoweredUnit) (x : Bytes) : Type 0 where
  constant : is_adjustable (u.unit.attribute x) ≡ false → AreFixed (own_facts (program_units us) j u.unit) x → HasDummyBounds us j u x
  adjustable : has_adjustable_bounds (u.unit.attribute x) ≡ true → HasDummyBounds us j u x

-- a dummy variable or array of numbers, or a dummy procedure, and what it stands for by its uses
pub data IsPlainDummy (us : List LoweredUnit) (j : ℕ) (u : LoweredUnit) (x : Bytes) : Type 0 where
  is_number : (u.unit.attribute x).class ≡ class.Dummy → is_numeric (u.unit.attribute x).basic ≡ true → (u.unit.attribute x).width ≡ Some 4 → HasDummyBounds us j u x →
      is_number_pointer (parameter_for (u.use_of x)) ≡ true → IsPlainDummy us j u x
  is_procedure : (u.unit.attribute x).class ≡ class.DummyProcedure → HasDummyBounds us j u x → is_function_pointer (parameter_for (u.use_of x)) ≡ true → IsPlainDummy us j u x

-- the dummies of the one entry, each once, and no others; names of C come from letters and digits
pub record HasPlainDummies (us : List LoweredUnit) (j : ℕ) (u : LoweredUnit) (formals : List Formal) : Type 0 where
  pub plain : (x : Bytes) → IsIn x (named_formals formals) → IsPlainDummy us j u x
  pub named : (x : Bytes) → IsIn x (named_formals formals) → is_name x ≡ true
  pub distinct : names.AreDistinct (named_formals formals)
  pub variables : (x : Bytes) → (u.unit.attribute x).class ≡ class.Dummy → is_numeric (u.unit.attribute x).basic ≡ true → IsIn x (named_formals formals)
  pub procedures : (x : Bytes) → (u.unit.attribute x).class ≡ class.DummyProcedure → IsIn x (named_formals formals)

-- a function gives a number, under its own name alone; what is no function has no result
pub record HasPlainResult (unit : ProgramUnit) (name : Bytes) : Type 0 where
  pub own : unit.kind ≡ FunctionUnit → (unit.attribute name).class ≡ class.Result
  pub numeric : (x : Bytes) → (unit.attribute x).class ≡ class.Result → (unit.kind ≡ FunctionUnit) × (is_numeric (unit.attribute x).basic ≡ true)
  pub alone : (x : Bytes) → (unit.attribute x).class ≡ class.Result → (unit.attribute x).dimensions ≡ []

-- ## Units

-- a text that fits into memory; what its STOP statements write is bytes
pub record IsPlainUnitText (u : Text) : Type 0 where
  pub steps : 1 + length u.steps ≤ 2 ^ 64
  pub temporaries : 1 + temporaries_kept u.steps ≤ 2 ^ 64
  pub marks : 1 + length u.marks ≤ 2 ^ 64
  pub labels : (label : ℕ) → IsIn label (labels_in u.steps) → label < 2 ^ 64
  pub stops : (n : ℕ) (text : Bytes) → slice_get u.steps n ≡ Some (Halt text) → AreBytes text × (length text < 2147483648)

-- a main program, a subroutine or a function of numbers with one entry, which is lowered to its text
pub record IsPlainUnit (us : List LoweredUnit) (j : ℕ) (u : LoweredUnit) : Type 0 where
  pub lowered : lowered_unit (own_facts (program_units us) j u.unit) ≡ Some u.text
  -- behind what it keeps of its dummy arrays
  pub text : IsPlainUnitText (whole_text u)
  -- its statements are lowered, END stands last, and its loops are nested and entered by their DO alone
  pub direct : are_direct u.unit.lines ≡ true
  pub ended : has_end u.unit.lines ≡ true
  pub loops : LoopsFit u.unit
  pub runs : u.unit.kind ≢ BlockDataUnit
  pub name : Bytes
  pub formals : List Formal
  pub entry : u.unit.entries ≡ record { name = name; formals = formals; start = 0 } ∷ []
  -- a main program is not called with arguments
  pub main : u.unit.kind ≡ MainProgram → formals ≡ []
  pub dummies : HasPlainDummies us j u formals
  pub result : HasPlainResult u.unit name
  pub storage : HasPlainStorage u.unit
  pub bounds : HasPlainBounds u.unit

-- the units of all files, one at least; their functions are told apart
pub record ArePlainUnits (us : List LoweredUnit) : Type 0 where
  pub units : (j : ℕ) (u : LoweredUnit) → slice_get us j ≡ Some u → IsPlainUnit us j u
  pub some : 1 ≤ length us
  pub differ : names.AreDistinct (map function_name (program_units us))

-- LAW
-- the units of some files, and the C files that are made for them
abbrev pub PlainUnitsRunAlike : Type 0
PlainUnitsRunAlike = (lfs : List (List LoweredUnit)) (fs : List UnitsOfFile) → ArePlainUnits (all_lowered lfs) → written_files lfs ≡ Some fs → (units : Units) (n : ℕ) →
    (act_of (ftn (own_setting (program_units (all_lowered lfs))) (program_units (all_lowered lfs)) units n) ≡ Some NoMeaning → ⊥) →
    SameRuns (program_units (all_lowered lfs)) (own_setting (program_units (all_lowered lfs))) (files_of fs) units n
