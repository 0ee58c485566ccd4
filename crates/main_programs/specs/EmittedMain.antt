-- That the function built for the lowered text of a main program is one of which all is so that is asked, where its objects stand in the world and the types
-- and outputs that are said of its steps fit them. ANSI X3.9-1978, sections 12.8 and 14; C89, 3.1.2.4.
use Rattle.std.specs.Prelude.{◌≡◌, ℕ, suc, ◌+◌, ◌<◌, ◌≤◌, ℤ, true, List, [], ◌∷◌, length, Option, Some, None, slice_get}
use Rattle.main_file_laws.specs.f_tree.declared.names.Basic.{Basic}
use Rattle.main_file_laws.specs.f_tree.declared.names.Class.TheVariants as class
use Rattle.main_file_laws.specs.f_tree.Values.{Bytes, Spot, IsInt, IsText, IsSpot, Gives}
use Rattle.main_file_laws.specs.f_tree.Facts.{Direction, Layout, Controls, Bounds, MainProgram, EntryPoint, Frame}
use Rattle.main_file_laws.specs.f_tree.Setting.{IsIn}
use Rattle.main_file_laws.specs.f_tree.Valuing.{whole}
use Rattle.main_file_laws.specs.l_core.Pures.{Pures}
use Rattle.main_file_laws.specs.l_core.Steps.{Starts, Step, Acts, Halt, Text}
use Rattle.main_file_laws.specs.l_core.Costs.{cost}
use Rattle.main_file_laws.specs.c_tree.declared.statement.CStmt.{CStmt}
use Rattle.main_file_laws.specs.c_tree.Flat.{Flat}
use Rattle.main_file_laws.specs.c_tree.Linking.{Routines, file_scope, linked_function}
use Rattle.main_file_laws.specs.c_tree.Linking as linking
use Rattle.main_file_laws.specs.c_image.Addresses.{Reaches, IsSound}
use Rattle.main_file_laws.specs.c_image.Held.{Holds}
use Rattle.main_file_laws.specs.c_structure.Statements.{Outline}
use Rattle.main_file_laws.specs.c_emit.Calls.{unit_of}
use Rattle.bridge.specs.c_emit_laws.EmittedNumbers.{BoundFits}
use Rattle.bridge.specs.output_laws.ListedOutputs.{list_object}
use Rattle.bridge.specs.emitted_texts.SecondLayer.{Surroundings, Emission}
use Rattle.bridge.specs.emitted_texts.Emitted.{leads, kind_behind, stage_behind, is_of_output, IsEmittedMain}
use Rattle.main_file_laws.specs.main_file.MainFile.{Inventory, Bases, main_function, main_file, writing_of}
use Rattle.main_file_laws.specs.BuiltMain.{AreNumberedBuiltins, IsMainBuilt}

-- how the function goes by its text: an item for each step
abbrev pub emission_of : Inventory → Bases → Text → (ℕ → ℕ → Option Basic) → (ℕ → Option ℤ) → linking.Function → ℕ → Emission
emission_of v b u kind stage function number = record { writing = writing_of v b u.facts kind; place = λ n. n; stage = stage; function = function; number = number }

-- what is said of types and outputs fits the steps, wherever they lead
pub record StepsFit (v : Inventory) (b : Bases) (u : Text) (kind : ℕ → ℕ → Option Basic) (stage : ℕ → Option ℤ) : Type 0 where
  pub kinds : (n : ℕ) (st : Step) (m : ℕ) → slice_get u.steps n ≡ Some st → IsIn m (leads u n st) → (k : ℕ) (basic : Basic) → kind m k ≡ Some basic → kind_behind (writing_of v b u.facts kind) n st k ≡ Some basic
  pub stages : (n : ℕ) (st : Step) (m : ℕ) → slice_get u.steps n ≡ Some st → IsIn m (leads u n st) → (unit : ℤ) → stage m ≡ Some unit → stage_behind (stage n) st ≡ Some unit
  pub outputs : (n : ℕ) (st : Step) → slice_get u.steps n ≡ Some st → is_of_output st ≡ true → (unit : ℤ) × (stage n ≡ Some unit)
  pub none_at_first : stage (u.begins 0) ≡ None

-- its objects stand in the world before the first step
pub record ObjectsStand (s : Surroundings) (number : ℕ) (v : Inventory) (b : Bases) (u : Text) (kind : ℕ → ℕ → Option Basic) (function : linking.Function) : Type 0 where
  pub room : s.rooms number ≡ record { first = function.frame; count = length function.fresh }
  pub inside : function.frame + length function.fresh ≤ s.objects
  pub constants : (z : ℤ) → (writing_of v b u.facts kind).library.has z ≡ true → Holds (s.first.frozen ((writing_of v b u.facts kind).library.constant z)) (IsInt z)
  pub lists : (n : ℕ) (way : Direction) (layout : Layout) (controls : Controls) (ps : Pures) (m : ℕ) (unit : ℤ) → slice_get u.steps n ≡ Some (Acts (Starts way layout controls) ps m) → unit_of ps ≡ Some unit →
      s.first.frozen ((writing_of v b u.facts kind).library.list n) ≡ Some (list_object unit)
  pub texts : (n : ℕ) (text : Bytes) → slice_get u.steps n ≡ Some (Halt text) → Holds (s.first.frozen ((writing_of v b u.facts kind).library.text n)) (IsText text)
  pub sound : (f : Frame) (x : Bytes) (p : Spot) → (u.facts.program.attribute x).class ≡ class.Stored → whole u.facts f x ≡ Gives (IsSpot p) → IsSound s.first p
  pub reached : (f : Frame) (x : Bytes) (p : Spot) → (u.facts.program.attribute x).class ≡ class.Stored → whole u.facts f x ≡ Gives (IsSpot p) → Reaches s.first p ((writing_of v b u.facts kind).naming.address x)

-- the unit is a main program, which begins with its first statement, and whose bounds are constant
pub record IsMain (u : Text) : Type 0 where
  pub kind : u.facts.program.kind ≡ MainProgram
  pub entry : EntryPoint
  pub only : u.facts.program.entries ≡ entry ∷ []
  pub no_dummies : entry.formals ≡ []
  pub at_first : entry.start ≡ 0
  pub begins : u.begins 0 ≡ 0
  pub fits : (x : Bytes) (k : ℕ) (b : Bounds) → slice_get (u.facts.program.attribute x).bounds k ≡ Some b → BoundFits b
  pub closed : (x : Bytes) (k : ℕ) (b : Bounds) → slice_get (u.facts.program.attribute x).bounds k ≡ Some b → suc k < length (u.facts.program.attribute x).bounds → (last : ℤ) × (b.upper ≡ Some last)

-- LAW
abbrev pub MainsAreEmitted : Type 0
MainsAreEmitted = (s : Surroundings) (number : ℕ) (numbers : Routines) (objects : List ℕ → Option ℕ) (v : Inventory) (b : Bases) (u : Text) (costs : List ℕ) (kind : ℕ → ℕ → Option Basic) (stage : ℕ → Option ℤ) (o : Outline)
    (items : List Flat) (body : List CStmt) → AreNumberedBuiltins numbers v b → IsMainBuilt v b u kind o items body → IsMain u → StepsFit v b u kind stage → ((n : ℕ) (st : Step) → slice_get u.steps n ≡ Some st → 1 ≤ cost costs n) →
    ObjectsStand s number v b u kind (linked_function numbers b.own (file_scope numbers objects b.file (main_file v body)) b.function (main_function v body)).function →
    IsEmittedMain s number u costs (emission_of v b u kind stage (linked_function numbers b.own (file_scope numbers objects b.file (main_file v body)) b.function (main_function v body)).function number)
