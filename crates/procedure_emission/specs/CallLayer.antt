-- A lowered text of a procedure and its C function as a pair of local simulation, with calls and answers: what a procedure is called in is the world, what
-- it knows is so while it is active and while it waits, and it gives back the transfer that it found.
-- ANSI X3.9-1978, sections 2.13, 12.9 and 15; C89, 3.1.2.4, 3.3.2.2 and 3.6.6.4.
use Rattle.std.specs.Prelude.{◌≡◌, ℕ, nat_eq, ℤ, pos, Bool, true, false, List, [], ◌∷◌, ◌++◌, Option, Some, None}
use Rattle.emitted_texts.specs.simulation.LocalSimulation.{Kit, Pairing, Couple}
use Rattle.emitted_texts.specs.f_tree.declared.names.Basic.TheVariants.{Integer, Logical, Character, Untyped}
use Rattle.emitted_texts.specs.f_tree.declared.names.Class.TheVariants as class
use Rattle.emitted_texts.specs.f_tree.Values.{Bytes, Spot, Datum, IsInt, IsLog, IsText, IsSpot, IsProc, IsLabel, Nothing, Gives, in_range}
use Rattle.emitted_texts.specs.f_tree.Terms.{Wanted, AsSubroutine, AsFunction}
use Rattle.emitted_texts.specs.f_tree.Store.{Store, Truth, fetch}
use Rattle.emitted_texts.specs.f_tree.Facts.{FunctionUnit, ProgramUnit, Frame}
use Rattle.emitted_texts.specs.f_tree.Setting.{IsIn}
use Rattle.emitted_texts.specs.f_tree.World as fortran
use Rattle.emitted_texts.specs.f_tree.World.{Called, Procedure, Passed}
use Rattle.emitted_texts.specs.f_tree.Association.{serves}
use Rattle.emitted_texts.specs.l_core.Pures.{none_kept}
use Rattle.emitted_texts.specs.l_core.Steps.{Text}
use Rattle.emitted_texts.specs.l_core.Machine.{View, lowered}
use Rattle.emitted_texts.specs.l_core.Costs.{cost}
use Rattle.emitted_texts.specs.c_tree.declared.outcome.CValue.{CValue}
use Rattle.emitted_texts.specs.c_tree.declared.outcome.CValue.TheVariants.{Number, Pointer, Function}
use Rattle.emitted_texts.specs.c_tree.Access.{ToFunction}
use Rattle.emitted_texts.specs.c_tree.Objects.{Object, Values}
use Rattle.emitted_texts.specs.c_tree.World as c
use Rattle.emitted_texts.specs.c_tree.Steps as c_steps
use Rattle.emitted_texts.specs.c_tree.Steps.{language}
use Rattle.emitted_texts.specs.faithful.StorageImage.{number_for}
use Rattle.emitted_texts.specs.c_image.World.{World, Extends}
use Rattle.emitted_texts.specs.c_image.Addresses.{Through, IsSound}
use Rattle.emitted_texts.specs.c_emit_laws.EmittedNumbers.{IsKnown}
use Rattle.emitted_texts.specs.c_emit_laws.EmittedTypes.{AreTyped}
use Rattle.emitted_texts.specs.SecondLayer.{Surroundings, Emission, IsFree, BothStand, lengths_of, IsTemporary, OutputIsOn}
use Rattle.emitted_texts.specs.SecondLayer as second
use Rattle.late_starts.specs.LateStarts.{late}
use Rattle.kept_bounds.specs.KeptBounds.{without_bounds}
use Rattle.procedure_emission.specs.Reading.{IsPlain, numbers_kept}

-- ## The world of a call

pub record CallWorld : Type 0 where
  -- where storage stands, and what objects hold
  pub image : World
  -- what is wanted of the procedure, and the place for the result of a character function
  pub wanted : Wanted
  pub result : Option Spot
  -- the transfer in progress that the procedure finds and gives back, in both runs
  pub transfer : Option fortran.Transfer
  pub other : Option c.Transfer

-- the function of a unit, or its wrapper, adds to the world; the frames of the others stay as they are
abbrev pub Grows : Surroundings → ℕ → CallWorld → CallWorld → Type 0
Grows s i μ ν = second.Grows s i μ.image ν.image

-- both transfers are those that the procedure found
abbrev pub IsGivenBack : CallWorld → fortran.World → c.World → Type 0
IsGivenBack μ x y = (x.transfer ≡ μ.transfer) × (y.transfer ≡ μ.other)

-- ## Calls

-- the arguments of a call by the addresses of their places, which are sound; a label is none, and what has no value is taken by no procedure (15.9.3)
pub data ArePassed (s : Surroundings) (μ : World) : List Datum → List CValue → Type 0 where
  none_passed : ArePassed s μ [] []
  place_passed : (p : Spot) (object : ℕ) (ds : List Datum) (values : List CValue) → IsSound μ p → μ.homes p.sequence ≡ Some object → ArePassed s μ ds values → ArePassed s μ (IsSpot p ∷ ds) (Pointer object p.first ∷ values)
  procedure_passed : (x : Bytes) (number : ℕ) (ds : List Datum) (values : List CValue) → s.numbers (Procedure x) ≡ Some number → ArePassed s μ ds values → ArePassed s μ (IsProc x ∷ ds) (Function number ∷ values)
  nothing_passed : (value : CValue) (ds : List Datum) (values : List CValue) → ArePassed s μ ds values → ArePassed s μ (Nothing ∷ ds) (value ∷ values)
  label_passed : (label : ℕ) (ds : List Datum) (values : List CValue) → ArePassed s μ ds values → ArePassed s μ (IsLabel label ∷ ds) values

-- before the arguments the place for the result of a character function, and its length; no other procedure is given one
abbrev pub ResultIsPassed : World → Wanted → Option Spot → List CValue → Type 0
ResultIsPassed μ (AsFunction Character width) (Some p) values =
    (object : ℕ) × (p.basic ≡ Character) × (p.width ≡ width) × IsSound μ p × (μ.homes p.sequence ≡ Some object) × (values ≡ Pointer object p.first ∷ Number (pos width) ∷ [])
ResultIsPassed μ (AsFunction Character width) None values = ⊥
ResultIsPassed μ want result values = (result ≡ None) × (values ≡ [])

pub record CallsAlike (s : Surroundings) (μ : CallWorld) (x : fortran.World) (n : Called) (a : Passed) (y : c.World) (number : ℕ) (values : List CValue) : Type 0 where
  pub both : BothStand s μ.image μ.image x y
  pub want : a.want ≡ μ.wanted
  pub place : a.result ≡ μ.result
  pub found : IsGivenBack μ x y
  pub named : s.numbers n ≡ Some number
  pub result : List CValue
  pub arguments : List CValue
  pub result_passed : ResultIsPassed μ.image a.want a.result result
  pub are_passed : ArePassed s μ.image a.actuals arguments
  pub values_are : values ≡ result ++ arguments ++ lengths_of a.actuals

-- An answer is what was wanted: the number of a numeric function; nothing of a character function, whose text stands in the place for it; and of a
-- subroutine the number of its alternate return, which is none of them where it goes on behind the call.
abbrev pub IsAnswer : CallWorld → Wanted → Store → Datum → Option ℤ → Type 0
IsAnswer μ AsSubroutine store d answer = (z : ℤ) × (d ≡ IsInt z) × (in_range z ≡ true) × (answer ≡ Some z)
IsAnswer μ (AsFunction Integer width) store d answer = (z : ℤ) × (d ≡ IsInt z) × (in_range z ≡ true) × (answer ≡ Some z)
IsAnswer μ (AsFunction Logical width) store d answer = (b : Bool) × (d ≡ IsLog b) × (answer ≡ Some (number_for (Truth b)))
IsAnswer μ (AsFunction Character width) store d answer = (p : Spot) × (cs : Bytes) × (μ.result ≡ Some p) × (d ≡ IsText cs) × (fetch store p ≡ Gives d) × (answer ≡ None)
IsAnswer μ (AsFunction Untyped width) store d answer = ⊥

pub record AnswersAlike (s : Surroundings) (μ : CallWorld) (x : fortran.World) (d : Datum) (y : c.World) (answer : Option ℤ) : Type 0 where
  pub now : World
  pub both : BothStand s μ.image now x y
  pub found : IsGivenBack μ x y
  pub answers : IsAnswer μ μ.wanted x.store d answer

-- The world says where storage stands, what is held, and what the call is; no fault is claimed.
abbrev pub call_kit : Surroundings → Kit lowered language
call_kit s = record {
  World = CallWorld;
  Grows = Grows s;
  Passed = CallsAlike s;
  Given = AnswersAlike s;
  Claimed = λ x. ⊥;
  Told = λ x e. ⊥;
}

-- ## One text and its function

-- the frame of a procedure: by which of its names it was called, what that was to give, how high the store was, and the place of its result where it
-- is a function
pub record IsFrameOf (u : ProgramUnit) (μ : CallWorld) (f : Frame) : Type 0 where
  pub called : IsIn f.called u.entries
  pub served : serves u.kind (u.attribute f.called.name) μ.wanted ≡ true
  pub base : f.base ≡ μ.image.height
  pub no_result : (u.kind ≡ FunctionUnit → ⊥) → f.result ≡ None
  pub result : u.kind ≡ FunctionUnit → (p : Spot) × (f.result ≡ Some p) × (p.basic ≡ (u.attribute f.called.name).basic)

-- the parameter of a dummy procedure holds the function of the one that was passed
abbrev pub function_object : ℕ → Object
function_object number = Values (record { type = ToFunction; values = Some (Function number) ∷ [] })

abbrev pub AreProceduresHeld : Surroundings → Emission → World → Frame → Type 0
AreProceduresHeld s e ν f =
    (x : Bytes) (d : Datum) (parameter : ℕ) → (e.writing.facts.program.attribute x).class ≡ class.DummyProcedure → f.bound x ≡ Some d → e.writing.naming.address x ≡ Through parameter →
    (y : Bytes) × (number : ℕ) × (d ≡ IsProc y) × (s.numbers (Procedure y) ≡ Some number) × (ν.frozen parameter ≡ Some (function_object number))

-- what a function goes by while its procedure is active, the world of whose call is given
pub record IsActive (s : Surroundings) (number : ℕ) (e : Emission) (μ : CallWorld) (v : View) (x : fortran.World) (y : c.World) : Type 0 where
  pub now : World
  pub housed : Extends s.first μ.image
  pub both : BothStand s μ.image now x y
  -- its frame was nobody's at the call, and those of others are as they were
  pub free : IsFree (s.rooms number) μ.image
  pub others : (j : ℕ) → nat_eq j number ≡ false → IsFree (s.rooms j) μ.image → IsFree (s.rooms j) now
  pub frame : IsFrameOf e.writing.facts.program μ v.frame
  -- of its temporaries those are known that keep numbers
  pub known : IsKnown now e.writing v.frame (numbers_kept v.kept)
  pub temporaries : (k : ℕ) → e.writing.is_number k ≡ true → IsTemporary now (e.writing.naming.temporary k)
  pub procedures : AreProceduresHeld s e now v.frame

-- the transfer is the one that the procedure found, or an output of its own, where it found none
abbrev pub IsStaged : CallWorld → fortran.World → c.World → Option ℤ → Type 0
IsStaged μ x y None = IsGivenBack μ x y
IsStaged μ x y (Some unit) = OutputIsOn x y unit × (μ.transfer ≡ None) × (μ.other ≡ None)

-- the function is at the item of the step at which the text is
pub record IsAtStep (s : Surroundings) (number : ℕ) (e : Emission) (μ : CallWorld) (v : View) (x : fortran.World) (w : c_steps.View) (y : c.World) : Type 0 where
  pub position : w.position ≡ e.place v.at
  pub active : IsActive s number e μ v x y
  -- the temporaries keep numbers or nothing, of the types that are said, and the output is in progress that is said
  pub plain : (k : ℕ) (d : Datum) → v.kept k ≡ Some d → IsPlain d
  pub typed : AreTyped e.writing v.at v.kept
  pub staged : IsStaged μ x y (e.stage v.at)

-- the procedure waits for what it called; what it knows is so in the world of the other one
pub record IsWaiting (s : Surroundings) (number : ℕ) (e : Emission) (μ ν : CallWorld) (v : View) : Type 0 where
  pub now : World
  pub grown : Extends μ.image now
  pub grows : Extends now ν.image
  pub frame : IsFrameOf e.writing.facts.program μ v.frame
  pub known : IsKnown now e.writing v.frame (numbers_kept v.kept)
  pub procedures : AreProceduresHeld s e now v.frame

abbrev pub call_pairing : (s : Surroundings) → ℕ → Emission → Pairing (call_kit s)
call_pairing s number e = record {
  Houses = λ μ. Extends s.first μ.image;
  Idle = λ μ. IsFree (s.rooms number) μ.image;
  Matched = IsAtStep s number e;
  Halted = λ μ v x w y. IsActive s number e μ v x y;
  Waits = λ μ ν v w. IsWaiting s number e μ ν v;
}

-- a step of the text may cost what is said; each step of the function counts
abbrev pub call_couple : (s : Surroundings) → ℕ → Text → List ℕ → Emission → Couple (call_kit s)
call_couple s number u costs e = record {
  number = number;
  pairing = call_pairing s number e;
  source = u;
  target = e.function;
  weight = λ w. 1;
  most = λ v. cost costs v.at;
  spare = 0;
  wrapper = λ n. None;
  inner = e.number;
}

-- ## Where the function keeps bounds before its first statement

-- the function has begun, and is at the first of the items that keep its bounds: of the bounds of its arrays nothing is known yet
pub record IsEarly (s : Surroundings) (number : ℕ) (e : Emission) (μ : CallWorld) (v : View) (x : fortran.World) (w : c_steps.View) (y : c.World) : Type 0 where
  pub now : World
  pub both : BothStand s μ.image now x y
  pub frame : IsFrameOf e.writing.facts.program μ v.frame
  pub known : IsKnown now e.writing (without_bounds v.frame) none_kept
  pub procedures : AreProceduresHeld s e now v.frame

-- a step of the text may cost what is said later, with what is kept before the first
abbrev pub entered_couple : (s : Surroundings) → ℕ → Text → (costs later : List ℕ) → Emission → Couple (call_kit s)
entered_couple s number u costs later e = late (call_couple s number u costs e) (IsEarly s number e) (λ v. cost later v.at)
