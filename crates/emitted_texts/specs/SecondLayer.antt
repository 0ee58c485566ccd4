-- A lowered text and its C function as a pair of local simulation: where the text is at a step, the function is at the item of the step, the
-- FORTRAN store stands in the C objects, and what the function knows of its names and temporaries is so.
-- ANSI X3.9-1978, sections 2.13, 15.8 and 15.9; C89, 3.1.2.4, 3.3.2.2 and 3.6.
use Rattle.std.specs.Prelude.{◌≡◌, ℕ, ◌<◌, ◌≤◌, nat_eq, ℤ, pos, true, false, Bool, List, [], ◌∷◌, ◌++◌, length, Option, Some, None}
use Rattle.output_laws.specs.simulation.LocalSimulation.{Kit, Pairing, Couple}
use Rattle.output_laws.specs.f_tree.declared.names.Basic.{Basic}
use Rattle.output_laws.specs.f_tree.declared.names.Basic.TheVariants.{Character}
use Rattle.output_laws.specs.f_tree.Values.{Bytes, Spot, Datum, IsInt, IsLog, IsText, IsSpot, IsProc, IsLabel}
use Rattle.output_laws.specs.f_tree.Terms.{AsSubroutine}
use Rattle.output_laws.specs.f_tree.Facts.{FunctionUnit, ProgramUnit, Frame}
use Rattle.output_laws.specs.f_tree.Setting.{IsIn}
use Rattle.output_laws.specs.f_tree.World as fortran
use Rattle.output_laws.specs.f_tree.World.{Called, Procedure, Passed}
use Rattle.c_emit_laws.specs.l_core.Steps.{Text}
use Rattle.c_emit_laws.specs.l_core.Machine.{View, lowered}
use Rattle.c_emit_laws.specs.l_core.Costs.{cost}
use Rattle.output_laws.specs.c_tree.declared.outcome.CValue.{CValue}
use Rattle.output_laws.specs.c_tree.declared.outcome.CValue.TheVariants.{Number, Pointer, Function}
use Rattle.output_laws.specs.c_tree.Objects as objects_of
use Rattle.output_laws.specs.c_tree.World as c
use Rattle.output_laws.specs.c_tree.Linking as linking
use Rattle.output_laws.specs.c_tree.Steps as c_steps
use Rattle.output_laws.specs.c_tree.Steps.{language}
use Rattle.output_laws.specs.f_tree.Store.{Truth}
use Rattle.output_laws.specs.faithful.StorageImage.{number_for}
use Rattle.output_laws.specs.faithful.SameTransfer.{SameTransfer}
use Rattle.c_emit_laws.specs.c_image.World.{World, Extends, IsHomeless, IsIdle}
use Rattle.c_emit_laws.specs.c_image.Standing.{Stands}
use Rattle.c_emit_laws.specs.c_emit.Numbers.{Writing}
use Rattle.c_emit_laws.specs.EmittedNumbers.{IsKnown}
use Rattle.c_emit_laws.specs.EmittedTypes.{AreTyped}
use Rattle.output_laws.specs.edit_meaning.Listed.{ListedValue}
use Rattle.output_laws.specs.ListedOutputs.{IsInProgress}

-- ## What the functions of a program stand in

-- the objects of a function's frame: the first, and how many
pub record Room : Type 0 where
  pub first : ℕ
  pub count : ℕ

pub record Surroundings : Type 0 where
  -- how many objects the program has, and where the frame of each unit's function stands
  pub objects : ℕ
  pub rooms : ℕ → Room
  -- the number of the C function for each name by which a unit is called
  pub numbers : Called → Option ℕ
  -- the world before the first step: where the storage stands that lasts for the whole run, and what constants and lists hold
  pub first : World

abbrev pub IsFree : Room → World → Type 0
IsFree room μ = IsIdle room.first room.count μ

-- the function of a unit adds to the world; the frames of the others stay as they are
pub record Grows (s : Surroundings) (i : ℕ) (μ ν : World) : Type 0 where
  pub extends : Extends μ ν
  pub others : (j : ℕ) → nat_eq j i ≡ false → IsFree (s.rooms j) μ → IsFree (s.rooms j) ν

-- transfers that agree; an internal file stands in storage that was there when the procedure was called
pub record TransfersStand (μ : World) (one : Option fortran.Transfer) (other : Option c.Transfer) : Type 0 where
  pub same : SameTransfer μ.homes one other
  pub below : (t : fortran.Transfer) (p : Spot) → one ≡ Some t → t.medium ≡ fortran.Internal p → p.sequence < μ.height

-- what both runs share, where a procedure was called in one world and it has grown to another
pub record BothStand (s : Surroundings) (μ ν : World) (x : fortran.World) (y : c.World) : Type 0 where
  pub extends : Extends μ ν
  pub stands : Stands ν x.store y.objects
  pub units : x.units ≡ y.units
  pub transfers : TransfersStand μ x.transfer y.transfer
  pub as_many : length y.objects ≡ s.objects

-- ## Calls

-- the arguments of a call by their addresses; a label is none (15.9.3)
pub data ArePassed (s : Surroundings) (μ : World) : List Datum → List CValue → Type 0 where
  none_passed : ArePassed s μ [] []
  place_passed : (p : Spot) (object : ℕ) (ds : List Datum) (values : List CValue) → μ.homes p.sequence ≡ Some object → ArePassed s μ ds values → ArePassed s μ (IsSpot p ∷ ds) (Pointer object p.first ∷ values)
  procedure_passed : (x : Bytes) (number : ℕ) (ds : List Datum) (values : List CValue) → s.numbers (Procedure x) ≡ Some number → ArePassed s μ ds values → ArePassed s μ (IsProc x ∷ ds) (Function number ∷ values)
  label_passed : (label : ℕ) (ds : List Datum) (values : List CValue) → ArePassed s μ ds values → ArePassed s μ (IsLabel label ∷ ds) values

-- and behind all of them the lengths of the texts
abbrev pub length_of_text : Basic → ℕ → List CValue
length_of_text Character width = Number (pos width) ∷ []
length_of_text basic width = []

abbrev pub lengths_of : List Datum → List CValue
lengths_of [] = []
lengths_of (IsSpot p ∷ ds) = length_of_text p.basic p.width ++ lengths_of ds
lengths_of (d ∷ ds) = lengths_of ds

-- before them the place for the result of a character function, and its length
abbrev pub ResultIsPassed : World → Option Spot → List CValue → Type 0
ResultIsPassed μ None values = values ≡ []
ResultIsPassed μ (Some p) values = (object : ℕ) × (μ.homes p.sequence ≡ Some object) × (values ≡ Pointer object p.first ∷ Number (pos p.width) ∷ [])

pub record CallsAlike (s : Surroundings) (μ : World) (x : fortran.World) (n : Called) (a : Passed) (y : c.World) (number : ℕ) (values : List CValue) : Type 0 where
  pub both : BothStand s μ μ x y
  -- a subroutine, and the main program, has no result
  pub none : a.want ≡ AsSubroutine → a.result ≡ None
  pub named : s.numbers n ≡ Some number
  pub result : List CValue
  pub arguments : List CValue
  pub result_passed : ResultIsPassed μ a.result result
  pub are_passed : ArePassed s μ a.actuals arguments
  pub values_are : values ≡ result ++ arguments ++ lengths_of a.actuals

-- an answer: the number of a numeric function or of the alternate return of a procedure, and none of a character function
abbrev pub IsAnswer : Datum → Option ℤ → Type 0
IsAnswer (IsInt z) answer = answer ≡ Some z
IsAnswer (IsLog b) answer = answer ≡ Some (number_for (Truth b))
IsAnswer (IsText cs) answer = answer ≡ None
IsAnswer other answer = ⊥

pub record AnswersAlike (s : Surroundings) (μ : World) (x : fortran.World) (d : Datum) (y : c.World) (answer : Option ℤ) : Type 0 where
  pub now : World
  pub both : BothStand s μ now x y
  pub answers : IsAnswer d answer

-- The world says where storage stands and what is held; no fault is claimed.
abbrev pub emit_kit : Surroundings → Kit lowered language
emit_kit s = record {
  World = World;
  Grows = Grows s;
  Passed = CallsAlike s;
  Given = AnswersAlike s;
  Claimed = λ x. ⊥;
  Told = λ x e. ⊥;
}

-- ## One text and its function

pub record Emission : Type 0 where
  pub writing : Writing
  -- the position of the item for each step
  pub place : ℕ → ℕ
  -- the unit of the output that is in progress before a step, where the text has begun one
  pub stage : ℕ → Option ℤ
  -- the function, and its number
  pub function : linking.Function
  pub number : ℕ

-- an object of the function's own that holds a number, and in which no sequence stands
pub record IsTemporary (μ : World) (object : ℕ) : Type 0 where
  pub bytes : List (Option ℕ)
  pub holds : μ.frozen object ≡ Some (objects_of.Bytes bytes)
  pub room : 4 ≤ length bytes
  pub homeless : IsHomeless μ object

-- the frame of a procedure: it was called by one of the names of the unit, and has a place for its result where it is a function
pub record IsFrameOf (u : ProgramUnit) (f : Frame) : Type 0 where
  pub called : IsIn f.called u.entries
  pub no_result : (u.kind ≡ FunctionUnit → ⊥) → f.result ≡ None

-- what a function goes by while its procedure is active, the world of whose call is given
pub record IsActive (s : Surroundings) (number : ℕ) (e : Emission) (μ : World) (v : View) (x : fortran.World) (y : c.World) : Type 0 where
  pub now : World
  pub housed : Extends s.first μ
  pub both : BothStand s μ now x y
  -- its frame was nobody's at the call
  pub free : IsFree (s.rooms number) μ
  pub frame : IsFrameOf e.writing.facts.program v.frame
  pub known : IsKnown now e.writing v.frame v.kept
  pub temporaries : (k : ℕ) → e.writing.is_number k ≡ true → IsTemporary now (e.writing.naming.temporary k)

-- an output of the text is in progress in both
pub record OutputIsOn (x : fortran.World) (y : c.World) (unit : ℤ) : Type 0 where
  pub zeros : Bool
  pub values : List ListedValue
  pub written : ℕ
  pub on : IsInProgress x y unit zeros values written

-- the function is at the item of the step at which the text is
pub record IsAtStep (s : Surroundings) (number : ℕ) (e : Emission) (μ : World) (v : View) (x : fortran.World) (w : c_steps.View) (y : c.World) : Type 0 where
  pub position : w.position ≡ e.place v.at
  pub active : IsActive s number e μ v x y
  -- the temporaries hold values of the types that are said, and the output is in progress that is said
  pub typed : AreTyped e.writing v.at v.kept
  pub staged : (unit : ℤ) → e.stage v.at ≡ Some unit → OutputIsOn x y unit

-- the procedure waits for what it called; what it knows is so in the world of the other one
pub record IsWaiting (s : Surroundings) (number : ℕ) (e : Emission) (μ ν : World) (v : View) : Type 0 where
  pub now : World
  pub grown : Extends μ now
  pub grows : Extends now ν
  pub frame : IsFrameOf e.writing.facts.program v.frame
  pub known : IsKnown now e.writing v.frame v.kept

abbrev pub emit_pairing : (s : Surroundings) → ℕ → Emission → Pairing (emit_kit s)
emit_pairing s number e = record {
  Houses = λ μ. Extends s.first μ;
  Idle = IsFree (s.rooms number);
  Matched = IsAtStep s number e;
  Halted = λ μ v x w y. IsActive s number e μ v x y;
  Waits = λ μ ν v w. IsWaiting s number e μ ν v;
}

-- a step of the text may cost what is said; each step of the function counts
abbrev pub emit_couple : (s : Surroundings) → ℕ → Text → List ℕ → Emission → Couple (emit_kit s)
emit_couple s number u costs e = record {
  number = number;
  pairing = emit_pairing s number e;
  source = u;
  target = e.function;
  weight = λ w. 1;
  most = λ v. cost costs v.at;
  spare = 0;
  wrapper = λ n. None;
  inner = e.number;
}
