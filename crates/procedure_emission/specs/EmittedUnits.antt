-- When the lowered text of a main program, a subroutine, or a function of numbers is emitted as a C function: what stands at each position, its frame,
-- its parameters and its result. It has one entry, and its dummies are variables and arrays of numbers, and procedures. Before its first statement it
-- keeps the bounds of its dummy arrays that a call fixes.
-- ANSI X3.9-1978, sections 5.5, 14, 15.5, 15.6, 15.8 and 15.9; C89, 3.1.2.4, 3.6.6.4 and 3.7.1.
use Rattle.std.specs.Prelude.{◌≡◌, ◌≢◌, ℕ, suc, ◌+◌, ◌<◌, ◌≤◌, nat_eq, nat_lt, ℤ, Bool, true, false, List, [], ◌∷◌, length, Some, None, slice_get}
use Rattle.emitted_texts.specs.f_tree.declared.names.Basic.{Basic}
use Rattle.emitted_texts.specs.f_tree.declared.names.Basic.TheVariants.{Logical}
use Rattle.emitted_texts.specs.f_tree.declared.names.Class.TheVariants as class
use Rattle.emitted_texts.specs.f_tree.Values.{Bytes, Spot, IsInt, IsText, IsSpot, Gives}
use Rattle.emitted_texts.specs.f_tree.Facts.{Direction, Layout, Controls, Formal, Named, Alternate, FunctionUnit, BlockDataUnit, EntryPoint, Frame}
use Rattle.emitted_texts.specs.f_tree.Setting.{IsIn}
use Rattle.emitted_texts.specs.f_tree.Valuing.{whole}
use Rattle.emitted_texts.specs.f_tree.World.{Called}
use Rattle.emitted_texts.specs.l_core.Pures.{Pure, Pures}
use Rattle.emitted_texts.specs.l_core.Steps.{Starts, Step, Keep, Back, BackBy, Halt, Acts, Text}
use Rattle.emitted_texts.specs.l_core.Costs.{cost}
use Rattle.emitted_texts.specs.c_tree.declared.types.ResultType.{ResultType}
use Rattle.emitted_texts.specs.c_tree.declared.types.ResultType.TheVariants as result
use Rattle.emitted_texts.specs.c_tree.declared.types.ParameterType.{ParameterType}
use Rattle.emitted_texts.specs.c_tree.declared.types.ParameterType.TheVariants as parameter
use Rattle.emitted_texts.specs.c_tree.Access.{ToNumber, ToPointer, ToFunction}
use Rattle.emitted_texts.specs.c_tree.Declarations.{unset_values}
use Rattle.emitted_texts.specs.c_tree.Flat.{Flat}
use Rattle.emitted_texts.specs.c_image.Addresses.{Alone, Through, Reaches, IsSound}
use Rattle.emitted_texts.specs.c_image.Held.{Holds}
use Rattle.emitted_texts.specs.c_image.Knowing.{IsApart}
use Rattle.emitted_texts.specs.c_emit.Numbers.{is_numeric}
use Rattle.emitted_texts.specs.c_emit.Types.{type_of}
use Rattle.emitted_texts.specs.c_emit.Calls.{unit_of}
use Rattle.emitted_texts.specs.output_laws.ListedOutputs.{list_object}
use Rattle.emitted_texts.specs.SecondLayer.{Room, Surroundings, Emission}
use Rattle.emitted_texts.specs.Emitted.{leads, stage_behind, is_of_output}
use Rattle.bound_items.specs.BoundItems.{Saving}
use Rattle.procedure_emission.specs.DummyBounds.{IsMadeAnew, BoundsAreKnown}
use Rattle.procedure_emission.specs.ProcedureItems.{procedure_item}
use Rattle.procedure_emission.specs.Reading.{kind_after}

-- ## Steps

-- the item for a step stands at its position
pub record IsItem (s : Surroundings) (u : Text) (e : Emission) (n : ℕ) (st : Step) : Type 0 where
  pub item : Flat
  pub emitted : procedure_item s.numbers e.writing e.place u.position n st ≡ Some item
  pub stands : slice_get e.function.code (e.place n) ≡ Some item

-- where a step may lead; a return leads nowhere
unfoldable pub leads_on : Text → ℕ → Step → List ℕ
leads_on u n (BackBy p) = []
leads_on u n st = leads u n st

unfoldable pub is_return : Step → Bool
is_return Back = true
is_return (BackBy p) = true
is_return st = false

-- What is said of types and of outputs before each step fits the steps, wherever they lead; what a temporary is given is of a type that is said, and a
-- return gives back the transfer that was found. What the calls of the library are passed is there from the first step on.
pub record StepsFit (s : Surroundings) (u : Text) (e : Emission) (entry : EntryPoint) : Type 0 where
  pub kinds : (n : ℕ) (st : Step) (m : ℕ) → slice_get u.steps n ≡ Some st → IsIn m (leads_on u n st) → (k : ℕ) (basic : Basic) → e.writing.kind m k ≡ Some basic → kind_after e.writing n st k ≡ Some basic
  pub keeps : (n k : ℕ) (p : Pure) → slice_get u.steps n ≡ Some (Keep k p) → (basic : Basic) × (type_of e.writing n p ≡ Some basic)
  pub stages : (n : ℕ) (st : Step) (m : ℕ) → slice_get u.steps n ≡ Some st → IsIn m (leads_on u n st) → e.stage m ≡ stage_behind (e.stage n) st
  pub outputs : (n : ℕ) (st : Step) → slice_get u.steps n ≡ Some st → is_of_output st ≡ true → (unit : ℤ) × (e.stage n ≡ Some unit)
  pub returns : (n : ℕ) (st : Step) → slice_get u.steps n ≡ Some st → is_return st ≡ true → e.stage n ≡ None
  pub none_at_first : e.stage (u.begins entry.start) ≡ None
  pub own : e.writing.library.own ≡ e.function.own
  pub constants : (z : ℤ) → e.writing.library.has z ≡ true → Holds (s.first.frozen (e.writing.library.constant z)) (IsInt z)
  pub lists : (n : ℕ) (way : Direction) (layout : Layout) (controls : Controls) (ps : Pures) (m : ℕ) (unit : ℤ) → slice_get u.steps n ≡ Some (Acts (Starts way layout controls) ps m) → unit_of ps ≡ Some unit →
      s.first.frozen (e.writing.library.list n) ≡ Some (list_object unit)
  pub texts : (n : ℕ) (text : Bytes) → slice_get u.steps n ≡ Some (Halt text) → Holds (s.first.frozen (e.writing.library.text n)) (IsText text)

-- ## Frames

abbrev pub IsOfRoom : Room → ℕ → Type 0
IsOfRoom room object = (room.first ≤ object) × (object < room.first + room.count)

-- no object is of the frames of two functions, and no constant is of the frame of another function
pub record RoomIsApart (s : Surroundings) (number : ℕ) (e : Emission) : Type 0 where
  pub rooms : (j object : ℕ) → nat_eq j number ≡ false → IsOfRoom (s.rooms j) object → IsOfRoom (s.rooms number) object → ⊥
  pub constants : (j : ℕ) (z : ℤ) → nat_eq j number ≡ false → e.writing.library.has z ≡ true → IsOfRoom (s.rooms j) (e.writing.library.constant z) → ⊥

-- ## Dummies and results

-- a pointer to numbers
unfoldable pub is_number_pointer : ParameterType → Bool
is_number_pointer parameter.Integers = true
is_number_pointer parameter.Logicals = true
is_number_pointer type = false

-- a dummy variable or array of numbers, and its parameter at a place among all
pub record IsParameter (u : Text) (e : Emission) (at : ℕ) (x : Bytes) (type : ParameterType) : Type 0 where
  pub dummy : (u.facts.program.attribute x).class ≡ class.Dummy
  pub numeric : is_numeric (u.facts.program.attribute x).basic ≡ true
  pub width : (u.facts.program.attribute x).width ≡ Some 4
  pub pointer : is_number_pointer type ≡ true
  pub address : e.writing.naming.address x ≡ Through (e.function.frame + at)
  pub fresh : slice_get e.function.fresh at ≡ Some (unset_values (ToPointer ToNumber) 1)

-- a pointer to a function
unfoldable pub is_function_pointer : ParameterType → Bool
is_function_pointer (parameter.Function type) = true
is_function_pointer type = false

-- a dummy procedure, and its parameter
pub record IsProcedureParameter (u : Text) (e : Emission) (at : ℕ) (x : Bytes) (type : ParameterType) : Type 0 where
  pub dummy : (u.facts.program.attribute x).class ≡ class.DummyProcedure
  pub pointer : is_function_pointer type ≡ true
  pub address : e.writing.naming.address x ≡ Through (e.function.frame + at)
  pub fresh : slice_get e.function.fresh at ≡ Some (unset_values ToFunction 1)

-- the parameters of the dummies in their order, from a place on; an alternate return has none
pub data AreParameters (u : Text) (e : Emission) : ℕ → List Formal → List ParameterType → Type 0 where
  no_parameters : (at : ℕ) → AreParameters u e at [] []
  named : (at : ℕ) (x : Bytes) (formals : List Formal) (type : ParameterType) (types : List ParameterType) → IsParameter u e at x type → AreParameters u e (suc at) formals types →
      AreParameters u e at (Named x ∷ formals) (type ∷ types)
  named_procedure : (at : ℕ) (x : Bytes) (formals : List Formal) (type : ParameterType) (types : List ParameterType) → IsProcedureParameter u e at x type → AreParameters u e (suc at) formals types →
      AreParameters u e at (Named x ∷ formals) (type ∷ types)
  alternate : (at : ℕ) (formals : List Formal) (types : List ParameterType) → AreParameters u e at formals types → AreParameters u e at (Alternate ∷ formals) types

unfoldable pub number_result : Basic → ResultType
number_result Logical = result.Logical
number_result basic = result.Integer

-- the variable for the result of a function of numbers
pub record ResultIsMade (u : Text) (e : Emission) (entry : EntryPoint) : Type 0 where
  pub object : ℕ
  pub made : IsMadeAnew e object
  pub own : (u.facts.program.attribute entry.name).class ≡ class.Result
  pub numeric : (x : Bytes) → (u.facts.program.attribute x).class ≡ class.Result → is_numeric (u.facts.program.attribute x).basic ≡ true
  pub address : (x : Bytes) → (u.facts.program.attribute x).class ≡ class.Result → e.writing.naming.address x ≡ Alone object
  pub gives : e.function.result ≡ number_result (u.facts.program.attribute entry.name).basic
  pub apart : (k : ℕ) → e.writing.is_number k ≡ true → e.writing.naming.temporary k ≢ object

-- ## The unit

-- What is asked of the function of a unit that may run: an item for each step, its frame, its parameters and its result, and that its other names are
-- those of the objects in which their storage stands when the run begins.
pub record IsEmittedUnit (s : Surroundings) (number : ℕ) (u : Text) (costs : List ℕ) (e : Emission) : Type 0 where
  pub facts : e.writing.facts ≡ u.facts
  pub runs : u.facts.program.kind ≢ BlockDataUnit
  pub items : (n : ℕ) (st : Step) → slice_get u.steps n ≡ Some st → IsItem s u e n st
  pub in_order : (n : ℕ) (st : Step) → slice_get u.steps n ≡ Some st → e.place (suc n) ≡ e.place n + 1
  pub positive : (n : ℕ) (st : Step) → slice_get u.steps n ≡ Some st → 1 ≤ cost costs n
  -- it has one name
  pub entry : EntryPoint
  pub only : u.facts.program.entries ≡ entry ∷ []
  pub room : s.rooms number ≡ record { first = e.function.frame; count = length e.function.fresh }
  pub inside : e.function.frame + length e.function.fresh ≤ s.objects
  pub apart_rooms : RoomIsApart s number e
  pub parameters : AreParameters u e 0 entry.formals e.function.parameters
  -- a procedure that is no function gives the number of its alternate return
  pub gives : u.facts.program.kind ≢ FunctionUnit → e.function.result ≡ result.Int
  pub result : u.facts.program.kind ≡ FunctionUnit → ResultIsMade u e entry
  pub temporaries : (k : ℕ) → e.writing.is_number k ≡ true → IsMadeAnew e (e.writing.naming.temporary k)
  pub apart : (k : ℕ) → e.writing.is_number k ≡ true → IsApart e.writing.naming k
  pub fit : StepsFit s u e entry
  -- what it calls are functions of the program
  pub calls : (name : Called) (function : ℕ) → s.numbers name ≡ Some function → nat_lt function e.function.own ≡ true
  -- names that have storage for the whole run
  pub sound : (f : Frame) (x : Bytes) (p : Spot) → (e.writing.facts.program.attribute x).class ≡ class.Stored → whole e.writing.facts f x ≡ Gives (IsSpot p) → IsSound s.first p
  pub reached : (f : Frame) (x : Bytes) (p : Spot) → (e.writing.facts.program.attribute x).class ≡ class.Stored → whole e.writing.facts f x ≡ Gives (IsSpot p) → Reaches s.first p (e.writing.naming.address x)
  -- what is kept before the first statement, and how bounds are known
  pub savings : List Saving
  pub bounds : BoundsAreKnown e entry.formals savings
  pub begins : e.place (u.begins entry.start) ≡ length savings

-- A step may cost more than the items for it: the first one also what is kept before it.
pub record IsCosted (u : Text) (costs later : List ℕ) (entry : EntryPoint) (savings : List Saving) : Type 0 where
  pub more : (n : ℕ) → cost costs n ≤ cost later n
  pub first : length savings + cost costs (u.begins entry.start) ≤ cost later (u.begins entry.start)

unfoldable pub units_opened : Unit {0}
unfolding leads_on is_return is_number_pointer is_function_pointer number_result
units_opened = tt
