-- When a lowered text of a main program is emitted as a C function, and that the function then simulates it. ANSI X3.9-1978, sections 14 and
-- 15.8; C89, 3.6.6.4.
use Rattle.std.specs.Prelude.{◌≡◌, ℕ, zero, suc, ◌+◌, ◌-◌, ◌<◌, ◌≤◌, nat_eq, ℤ, pos, Bool, true, false, List, [], ◌∷◌, length, Option, Some, None, slice_get, if◌then◌else◌}
use Rattle.output_laws.specs.simulation.LocalSimulation.{Local}
use Rattle.output_laws.specs.f_tree.declared.names.Class.TheVariants as class
use Rattle.output_laws.specs.f_tree.declared.names.Basic.{Basic}
use Rattle.output_laws.specs.f_tree.Values.{Bytes, Spot, IsInt, IsText, IsSpot, Gives}
use Rattle.output_laws.specs.f_tree.Facts.{Direction, Layout, Controls, Bounds, MainProgram, EntryPoint, Frame}
use Rattle.output_laws.specs.f_tree.Setting.{IsIn}
use Rattle.output_laws.specs.f_tree.Valuing.{whole, size_of_dimension}
use Rattle.c_emit_laws.specs.l_core.Pures.{Pures}
use Rattle.c_emit_laws.specs.l_core.Steps.{Starts, Takes, Finishes, Step, Keep, Compute, Unless, AgainIf, Skip, Again, Jump, Select, JumpBy, Branch, Way, Back, Halt, Acts, Text}
use Rattle.c_emit_laws.specs.l_core.Costs.{cost}
use Rattle.output_laws.specs.c_tree.declared.types.ResultType.TheVariants as result
use Rattle.output_laws.specs.c_tree.Objects as objects_of
use Rattle.output_laws.specs.c_tree.Flat.{Flat}
use Rattle.c_emit_laws.specs.c_image.Addresses.{Reaches, IsSound}
use Rattle.c_emit_laws.specs.c_image.Elements.{Written}
use Rattle.c_emit_laws.specs.c_image.Held.{Holds}
use Rattle.c_emit_laws.specs.c_image.Knowing.{IsApart}
use Rattle.c_emit_laws.specs.c_emit.Numbers.{Writing}
use Rattle.c_emit_laws.specs.c_emit.LibraryFunctions.{library_type}
use Rattle.c_emit_laws.specs.c_emit.Types.{type_of}
use Rattle.c_emit_laws.specs.c_emit.Calls.{unit_of}
use Rattle.c_emit_laws.specs.c_emit.Flats.{flat_of}
use Rattle.output_laws.specs.ListedOutputs.{list_object}
use Rattle.c_emit_laws.specs.EmittedNumbers.{BoundFits}
use Rattle.emitted_texts.specs.SecondLayer.{Surroundings, Emission, emit_couple}

-- the item for a step stands at its position
pub record IsItem (u : Text) (e : Emission) (n : ℕ) (st : Step) : Type 0 where
  pub item : Flat
  pub emitted : flat_of e.writing e.place u.position n st ≡ Some item
  pub stands : slice_get e.function.code (e.place n) ≡ Some item

-- the temporary is an object of the frame that is made anew at each call
pub record IsInFrame (e : Emission) (object : ℕ) : Type 0 where
  pub index : ℕ
  pub at : object ≡ e.function.frame + index
  pub bytes : List (Option ℕ)
  pub is : slice_get e.function.fresh index ≡ Some (objects_of.Bytes bytes)
  pub room : 4 ≤ length bytes

-- where a step may lead
unfoldable pub labelled : Option ℕ → List ℕ
labelled None = []
labelled (Some n) = n ∷ []

-- so many positions, from one on
unfoldable pub places_from : ℕ → ℕ → List ℕ
places_from n zero = []
places_from n (suc count) = n ∷ places_from (suc n) count

unfoldable pub leads : Text → ℕ → Step → List ℕ
leads u n (Unless p m) = suc n ∷ (suc n + m) ∷ []
leads u n (AgainIf p m) = (n - m) ∷ suc n ∷ []
leads u n (Skip m) = (suc n + m) ∷ []
leads u n (Again m) = (n - m) ∷ []
leads u n (Jump label) = labelled (u.position label)
leads u n (Select p count) = suc n ∷ places_from (suc (suc n)) count
leads u n (JumpBy p labels) = suc n ∷ places_from (suc (suc n)) (length labels)
leads u n (Branch k count) = suc n ∷ places_from (suc (suc n)) count
leads u n (Way label) = labelled (u.position label)
leads u n Back = []
leads u n (Halt text) = []
leads u n st = suc n ∷ []

-- the type of what a temporary holds behind a step, and the unit of the output that is in progress then
unfoldable pub kind_behind : Writing → ℕ → Step → ℕ → Option Basic
kind_behind w n (Keep j p) k = if nat_eq k j then type_of w n p else w.kind n k
kind_behind w n (Compute j f ps) k = if nat_eq k j then library_type f else w.kind n k
kind_behind w n st k = w.kind n k

unfoldable pub stage_behind : Option ℤ → Step → Option ℤ
stage_behind now (Acts (Starts way layout controls) ps m) = unit_of ps
stage_behind now (Acts Finishes ps m) = None
stage_behind now st = now

-- does a step go on with an output
unfoldable pub is_of_output : Step → Bool
is_of_output (Acts Takes ps m) = true
is_of_output (Acts Finishes ps m) = true
is_of_output st = false

-- What is said of types and of outputs before each step fits the steps, wherever they lead; and what the calls of the library are passed is there
-- from the first step on.
pub record CallsFit (s : Surroundings) (u : Text) (e : Emission) : Type 0 where
  pub kinds : (n : ℕ) (st : Step) (m : ℕ) → slice_get u.steps n ≡ Some st → IsIn m (leads u n st) → (k : ℕ) (basic : Basic) → e.writing.kind m k ≡ Some basic → kind_behind e.writing n st k ≡ Some basic
  pub stages : (n : ℕ) (st : Step) (m : ℕ) → slice_get u.steps n ≡ Some st → IsIn m (leads u n st) → (unit : ℤ) → e.stage m ≡ Some unit → stage_behind (e.stage n) st ≡ Some unit
  pub outputs : (n : ℕ) (st : Step) → slice_get u.steps n ≡ Some st → is_of_output st ≡ true → (unit : ℤ) × (e.stage n ≡ Some unit)
  pub none_at_first : e.stage (u.begins 0) ≡ None
  pub own : e.writing.library.own ≡ e.function.own
  pub constants : (z : ℤ) → e.writing.library.has z ≡ true → Holds (s.first.frozen (e.writing.library.constant z)) (IsInt z)
  pub lists : (n : ℕ) (way : Direction) (layout : Layout) (controls : Controls) (ps : Pures) (m : ℕ) (unit : ℤ) → slice_get u.steps n ≡ Some (Acts (Starts way layout controls) ps m) → unit_of ps ≡ Some unit →
      s.first.frozen (e.writing.library.list n) ≡ Some (list_object unit)
  pub texts : (n : ℕ) (text : Bytes) → slice_get u.steps n ≡ Some (Halt text) → Holds (s.first.frozen (e.writing.library.text n)) (IsText text)

-- What is asked of the function of a main program: an item for each step, its frame, and that its names are those of the objects in which their
-- storage stands when the run begins.
pub record IsEmittedMain (s : Surroundings) (number : ℕ) (u : Text) (costs : List ℕ) (e : Emission) : Type 0 where
  pub facts : e.writing.facts ≡ u.facts
  pub kind : u.facts.program.kind ≡ MainProgram
  pub items : (n : ℕ) (st : Step) → slice_get u.steps n ≡ Some st → IsItem u e n st
  pub in_order : (n : ℕ) (st : Step) → slice_get u.steps n ≡ Some st → e.place (suc n) ≡ e.place n + 1
  pub positive : (n : ℕ) (st : Step) → slice_get u.steps n ≡ Some st → 1 ≤ cost costs n
  -- it has one name, no dummies, and begins with its first statement
  pub entry : EntryPoint
  pub only : u.facts.program.entries ≡ entry ∷ []
  pub no_dummies : entry.formals ≡ []
  pub at_first : entry.start ≡ 0
  pub begins : e.place (u.begins 0) ≡ 0
  pub room : s.rooms number ≡ record { first = e.function.frame; count = length e.function.fresh }
  pub inside : e.function.frame + length e.function.fresh ≤ s.objects
  pub result : e.function.result ≡ result.Int
  pub parameters : e.function.parameters ≡ []
  pub temporaries : (k : ℕ) → e.writing.is_number k ≡ true → IsInFrame e (e.writing.naming.temporary k)
  pub apart : (k : ℕ) → e.writing.is_number k ≡ true → IsApart e.writing.naming k
  pub calls : CallsFit s u e
  -- names that have storage for the whole run
  pub sound : (f : Frame) (x : Bytes) (p : Spot) → (e.writing.facts.program.attribute x).class ≡ class.Stored → whole e.writing.facts f x ≡ Gives (IsSpot p) → IsSound s.first p
  pub reached : (f : Frame) (x : Bytes) (p : Spot) → (e.writing.facts.program.attribute x).class ≡ class.Stored → whole e.writing.facts f x ≡ Gives (IsSpot p) → Reaches s.first p (e.writing.naming.address x)
  -- bounds that are constant
  pub fits : (x : Bytes) (k : ℕ) (b : Bounds) → slice_get (e.writing.facts.program.attribute x).bounds k ≡ Some b → BoundFits b
  pub closed : (x : Bytes) (k : ℕ) (b : Bounds) → slice_get (e.writing.facts.program.attribute x).bounds k ≡ Some b → suc k < length (e.writing.facts.program.attribute x).bounds → (last : ℤ) × (b.upper ≡ Some last)
  pub lowers : (x : Bytes) (k : ℕ) (b : Bounds) → slice_get (e.writing.facts.program.attribute x).bounds k ≡ Some b → e.writing.naming.lower x k ≡ Written b.lower
  pub sizes : (x : Bytes) (k : ℕ) (b : Bounds) (last : ℤ) → slice_get (e.writing.facts.program.attribute x).bounds k ≡ Some b → b.upper ≡ Some last → e.writing.naming.size x k ≡ Written (pos (size_of_dimension b))

-- The function of a main program simulates its lowered text, where each step is emitted.
abbrev pub MainsAreSimulated : Type 0
MainsAreSimulated = (s : Surroundings) (number : ℕ) (u : Text) (costs : List ℕ) (e : Emission) → IsEmittedMain s number u costs e → Local (emit_couple s number u costs e)
