-- Units with their lowered texts, and what their C files have: what each must satisfy, and the files. ANSI X3.9-1978, sections 2.4, 5, 12.8, 14, 15 and 17.1;
-- C89, 3.1.2.1 and 3.5.4.3.
use Rattle.std.specs.Prelude.{◌≡◌, ◌≢◌, ℕ, suc, ◌+◌, ◌<◌, ◌≤◌, ℤ, true, List, [], ◌∷◌, map, length, Option, Some, None, slice_get}
use Rattle.emitted_procedures.specs.f_tree.declared.names.Basic.{Basic}
use Rattle.emitted_procedures.specs.f_tree.declared.names.Class.TheVariants as class
use Rattle.emitted_procedures.specs.f_tree.Values.{Bytes, in_range}
use Rattle.emitted_procedures.specs.f_tree.Terms.{Term}
use Rattle.emitted_procedures.specs.f_tree.Facts.{Direction, Layout, Controls, Dimension, Bounds, FunctionUnit, BlockDataUnit, EntryPoint, ProgramUnit, Facts}
use Rattle.emitted_procedures.specs.f_tree.Setting.{IsIn}
use Rattle.emitted_procedures.specs.f_tree.Meaning.{facts_at, found_from}
use Rattle.emitted_procedures.specs.l_core.Pures.{Pure, Pures}
use Rattle.emitted_procedures.specs.l_core.Steps.{Starts, Step, Keep, Halt, Acts, Text}
use Rattle.unit_forms.specs.lowering.Units.{lowered_unit}
use Rattle.unit_forms.specs.lowering_laws.Layout.{are_direct, has_end, LoopsFit}
use Rattle.emitted_procedures.specs.c_tree.declared.types.NumberType.{NumberType}
use Rattle.emitted_procedures.specs.c_tree.declared.types.ResultType.TheVariants as result
use Rattle.emitted_procedures.specs.c_tree.Builtins.{builtin_names}
use Rattle.emitted_procedures.specs.c_tree.Flat.{Flat}
use Rattle.emitted_procedures.specs.c_tree.Meaning.{wrapped_by}
use Rattle.emitted_procedures.specs.faithful.StorageImage.{function_name}
use Rattle.emitted_procedures.specs.faithful.UnitsAtStart.{AreBytes}
use Rattle.unit_forms.specs.c_structure.Statements.{Outline}
use Rattle.emitted_procedures.specs.c_emit.Numbers.{Writing, is_numeric}
use Rattle.emitted_procedures.specs.c_emit.Types.{type_of}
use Rattle.emitted_procedures.specs.c_emit.Calls.{unit_of}
use Rattle.emitted_procedures.specs.c_emit_laws.EmittedNumbers.{BoundFits}
use Rattle.unit_file_laws.specs.linking_laws.Linked.{AreDistinct, IsNone}
use Rattle.emitted_procedures.specs.emitted_texts.Emitted.{stage_behind, is_of_output}
pub use Rattle.emitted_procedures.specs.procedure_emission.DummyBounds.{dummies_named, AreFixed, IsBoundValue}
use Rattle.emitted_procedures.specs.procedure_emission.kept_bounds.KeptBounds.{bound_pure, size_pure}
use Rattle.emitted_procedures.specs.procedure_emission.ProcedureItems.{Numbers}
use Rattle.emitted_procedures.specs.procedure_emission.Reading.{kind_after}
use Rattle.emitted_procedures.specs.procedure_emission.EmittedUnits.{leads_on, is_return, is_number_pointer, is_function_pointer, number_result}
use Rattle.unit_file_laws.specs.unit_file.UnitFile.{Listing, Parameter, BoundKind, LowerOf, SizeOf, KeptBound, Inventory, WrittenUnit, place_of_list, place_of_bound}
use Rattle.unit_file_laws.specs.unit_file.UnitNames.{own_names}
use Rattle.unit_file_laws.specs.unit_sites.UnitSites.{UnitsOfFile, all_units, inventories, Site, sites_of}
use Rattle.unit_file_laws.specs.KnownUnits.{unit_writing}
use Rattle.unit_file_laws.specs.BuiltUnits.{IsUnitBuilt}
use Rattle.behind_bounds.specs.BehindBounds.{behind, writing_behind}
use Rattle.unit_programs.specs.OwnStorage.{own_setting, HasOwnStorage}

-- ## What becomes of a unit

pub record Rendering : Type 0 where
  pub unit : ProgramUnit
  pub text : Text
  -- what its function has, and the statements of that
  pub written : WrittenUnit
  -- where the function stands
  pub site : Site
  -- of what type a temporary is before a step, and the unit of the output that is in progress, for steps behind what is kept
  pub kind : ℕ → ℕ → Option Basic
  pub stage : ℕ → Option ℤ
  -- what the statements are built from
  pub outline : Outline
  pub items : List Flat

abbrev pub units_of : List Rendering → List ProgramUnit
units_of rs = map (λ (r : Rendering). r.unit) rs

abbrev pub written_of : List Rendering → List WrittenUnit
written_of rs = map (λ (r : Rendering). r.written) rs

abbrev pub sites_of_renderings : List Rendering → List Site
sites_of_renderings rs = map (λ (r : Rendering). r.site) rs

-- the number of each procedure is that of its unit
abbrev pub numbers_of : List Rendering → Numbers
numbers_of rs = found_from 0 (units_of rs)

abbrev pub facts_of : List Rendering → ℕ → Rendering → Facts
facts_of rs j r = facts_at (own_setting (units_of rs)) j (Some r.unit)

-- the lowered text behind what is kept of dummy arrays
abbrev pub whole_text : Rendering → Text
whole_text r = behind (length r.written.inventory.bounds) r.text

-- ## Bounds

-- the bounds of a name are constant but for a last one that is assumed, and have 32 bits, and none of them is kept
pub record BoundsAreWritten (c : Facts) (v : Inventory) (x : Bytes) : Type 0 where
  pub unkept : (k : ℕ) (kind : BoundKind) → place_of_bound v x k kind ≡ None
  pub fits : (k : ℕ) (b : Bounds) → slice_get (c.program.attribute x).bounds k ≡ Some b → BoundFits b
  pub closed : (k : ℕ) (b : Bounds) → slice_get (c.program.attribute x).bounds k ≡ Some b → suc k < length (c.program.attribute x).bounds → (last : ℤ) × (b.upper ≡ Some last)

-- a bound is kept by its value
pub record IsKept (v : Inventory) (x : Bytes) (k : ℕ) (kind : BoundKind) (p : Pure) : Type 0 where
  pub place : ℕ
  pub one : KeptBound
  pub placed : place_of_bound v x k kind ≡ Some place
  pub at : slice_get v.bounds place ≡ Some one
  pub value : one.value ≡ p

-- the bounds of a dummy array are fixed by each call, and all are kept; each dimension but the last has an upper bound
pub record BoundsAreKept (c : Facts) (v : Inventory) (x : Bytes) : Type 0 where
  pub lowers : (k : ℕ) (d : Dimension) → slice_get (c.program.attribute x).dimensions k ≡ Some d → (p : Pure) × (bound_pure d.lower ≡ Some p) × IsKept v x k LowerOf p
  pub sizes : (k : ℕ) (d : Dimension) (t : Term) → slice_get (c.program.attribute x).dimensions k ≡ Some d → d.upper ≡ Some t →
      (lower : Pure) × (upper : Pure) × (bound_pure d.lower ≡ Some lower) × (bound_pure t ≡ Some upper) × IsKept v x k SizeOf (size_pure lower upper)
  pub closed : (k : ℕ) (d : Dimension) → slice_get (c.program.attribute x).dimensions k ≡ Some d → suc k < length (c.program.attribute x).dimensions → (t : Term) × (d.upper ≡ Some t)

-- the bounds of a dummy
pub data DummyBounds (c : Facts) (v : Inventory) (x : Bytes) : Type 0 where
  are_written : AreFixed c x → BoundsAreWritten c v x → DummyBounds c v x
  are_kept : BoundsAreKept c v x → DummyBounds c v x

-- ## Dummies and results

-- a dummy variable or array of numbers, or a procedure, and its parameter
pub data IsDummy (c : Facts) (v : Inventory) (p : Parameter) : Type 0 where
  is_number : (c.program.attribute p.name).class ≡ class.Dummy → is_numeric (c.program.attribute p.name).basic ≡ true → (c.program.attribute p.name).width ≡ Some 4 → DummyBounds c v p.name → is_number_pointer p.type ≡ true → IsDummy c v p
  is_procedure : (c.program.attribute p.name).class ≡ class.DummyProcedure → DummyBounds c v p.name → is_function_pointer p.type ≡ true → IsDummy c v p

-- the result of a function of numbers
pub record IsResult (c : Facts) (v : Inventory) (entry : EntryPoint) : Type 0 where
  pub type : NumberType
  pub returned : v.returned ≡ Some type
  pub own : (c.program.attribute entry.name).class ≡ class.Result
  pub numeric : (x : Bytes) → (c.program.attribute x).class ≡ class.Result → is_numeric (c.program.attribute x).basic ≡ true
  pub gives : v.result ≡ number_result (c.program.attribute entry.name).basic

-- ## Steps

-- what is said of types and outputs before each step fits the steps, wherever they lead; a return gives back the transfer that was found
pub record Flows (w : Writing) (u : Text) (stage : ℕ → Option ℤ) (entry : EntryPoint) : Type 0 where
  pub kinds : (n : ℕ) (st : Step) (m : ℕ) → slice_get u.steps n ≡ Some st → IsIn m (leads_on u n st) → (k : ℕ) (basic : Basic) → w.kind m k ≡ Some basic → kind_after w n st k ≡ Some basic
  pub keeps : (n k : ℕ) (p : Pure) → slice_get u.steps n ≡ Some (Keep k p) → (basic : Basic) × (type_of w n p ≡ Some basic)
  pub stages : (n : ℕ) (st : Step) (m : ℕ) → slice_get u.steps n ≡ Some st → IsIn m (leads_on u n st) → stage m ≡ stage_behind (stage n) st
  pub outputs : (n : ℕ) (st : Step) → slice_get u.steps n ≡ Some st → is_of_output st ≡ true → (unit : ℤ) × (stage n ≡ Some unit)
  pub returns : (n : ℕ) (st : Step) → slice_get u.steps n ≡ Some st → is_return st ≡ true → stage n ≡ None
  pub none_at_first : stage (u.begins entry.start) ≡ None

-- what is passed to the library: control lists are those of the outputs, and strings of stops their texts
pub record Passes (v : Inventory) (u : Text) : Type 0 where
  pub units : (n : ℕ) (way : Direction) (layout : Layout) (controls : Controls) (ps : Pures) (m : ℕ) (unit : ℤ) → slice_get u.steps n ≡ Some (Acts (Starts way layout controls) ps m) → unit_of ps ≡ Some unit →
      (i : ℕ) × (l : Listing) × (place_of_list v n ≡ Some i) × (slice_get v.lists i ≡ Some l) × (l.unit ≡ unit)
  pub texts : (n : ℕ) (text : Bytes) → slice_get u.steps n ≡ Some (Halt text) → v.texts n ≡ text
  pub short : (n : ℕ) (text : Bytes) → slice_get u.steps n ≡ Some (Halt text) → AreBytes text × (length text < 2147483648)

-- ## One unit

-- the unit is lowered to its text, and its function is built for that, behind what it keeps of its dummy arrays
pub record IsTranslatedUnit (rs : List Rendering) (j : ℕ) (r : Rendering) : Type 0 where
  pub lowered : lowered_unit (facts_of rs j r) ≡ Some r.text
  pub facts : r.text.facts ≡ facts_of rs j r
  pub direct : are_direct r.unit.lines ≡ true
  pub ended : has_end r.unit.lines ≡ true
  pub loops : LoopsFit r.unit
  -- it may run, and has one name, under which its text begins
  pub runs : r.unit.kind ≢ BlockDataUnit
  pub entry : EntryPoint
  pub only : r.unit.entries ≡ entry ∷ []
  pub begins : r.text.begins entry.start ≡ 0
  pub named : r.written.inventory.name ≡ function_name r.unit
  -- its dummies and its result
  pub dummies : dummies_named entry.formals ≡ map (λ (p : Parameter). p.name) r.written.inventory.parameters
  pub parameters : (i : ℕ) (p : Parameter) → slice_get r.written.inventory.parameters i ≡ Some p → IsDummy r.text.facts r.written.inventory p
  pub gives : r.unit.kind ≢ FunctionUnit → r.written.inventory.result ≡ result.Int
  pub result : r.unit.kind ≡ FunctionUnit → IsResult r.text.facts r.written.inventory entry
  -- only a function has a result
  pub results : (x : Bytes) → (r.text.facts.program.attribute x).class ≡ class.Result → r.unit.kind ≡ FunctionUnit
  pub storage : HasOwnStorage r.unit r.written.inventory
  -- of names that no call gives bounds, these are written; what is kept is a bound of a dummy
  pub bounds : (x : Bytes) → (IsIn x (dummies_named entry.formals) → ⊥) → BoundsAreWritten r.text.facts r.written.inventory x
  pub values : (i : ℕ) (one : KeptBound) → slice_get r.written.inventory.bounds i ≡ Some one → IsBoundValue r.text.facts entry.formals one.value
  pub built : IsUnitBuilt (numbers_of rs) (written_of rs) r.site r.written (whole_text r) r.kind r.outline r.items
  -- what is said before a step is said of its place behind what is kept
  pub flows : Flows (writing_behind (length r.written.inventory.bounds) (unit_writing r.site r.written r.text.facts r.kind)) r.text (λ n. r.stage (length r.written.inventory.bounds + n)) entry
  pub passes : Passes r.written.inventory (whole_text r)
  pub no_wrapper : wrapped_by r.written.body ≡ None

-- ## The files

-- each unit is translated, and its function is one of the files; the functions are told apart from each other and from those of the library, and constants
-- have 32 bits
pub record IsTranslatedSet (fs : List UnitsOfFile) (rs : List Rendering) : Type 0 where
  pub units : (j : ℕ) (r : Rendering) → slice_get rs j ≡ Some r → IsTranslatedUnit rs j r
  pub written : written_of rs ≡ all_units fs
  pub sited : sites_of_renderings rs ≡ sites_of fs
  pub some : 1 ≤ length rs
  pub differ : AreDistinct (own_names (inventories (written_of rs)))
  pub apart : (k : ℕ) (name : List ℕ) → slice_get builtin_names k ≡ Some name → IsNone name (own_names (inventories (written_of rs)))
  pub numbers : (j : ℕ) (r : Rendering) → slice_get rs j ≡ Some r → (i : ℕ) (z : ℤ) → slice_get r.site.constants i ≡ Some z → in_range z ≡ true
