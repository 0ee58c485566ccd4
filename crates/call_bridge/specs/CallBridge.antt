-- A set of program units that call each other and the linked program of their C texts: what is asked of each unit and its function, of their names, and of
-- the objects before the first step, and that then each run of the units is the run of the texts. ANSI X3.9-1978, sections 2.4, 12.8, 14 and 15; C89,
-- 3.1.2.2.
use Rattle.std.specs.Prelude.{◌≡◌, ℕ, ◌<◌, ◌≤◌, nat_lt, Bool, true, false, not, List, length, Option, Some, None, slice_get}
use Rattle.lowering_laws.specs.simulation.LocalSimulation.{Local}
use Rattle.lowering_laws.specs.simulation.Law.{Linking}
use Rattle.lowering_laws.specs.simulation.Composition.{composite_kit, composite_pairing}
use Rattle.lowering_laws.specs.run_state.Units.{Units}
use Rattle.lowering_laws.specs.f_tree.Values.{NoMeaning}
use Rattle.lowering_laws.specs.f_tree.Facts.{Home, Member, ProgramUnit, Frame}
use Rattle.lowering_laws.specs.f_tree.Setting.{Setting, HasUnit, IsIn, unit_home}
use Rattle.lowering_laws.specs.f_tree.World.{Called, TheMain}
use Rattle.lowering_laws.specs.f_tree.Meaning as source
use Rattle.lowering_laws.specs.f_tree.Meaning.{found_from, facts_at, start_world, ftn, act_of}
use Rattle.lowering_laws.specs.l_core.Pures.{Temporaries}
use Rattle.lowering_laws.specs.l_core.Steps.{Text}
use Rattle.lowering_laws.specs.l_core.Costs.{rest}
use Rattle.lowering_laws.specs.Layer.{lower_kit, lower_pairing, lower_couple}
use Rattle.procedure_emission.specs.c_tree.declared.file.CFile.{CFile}
use Rattle.procedure_emission.specs.c_tree.declared.file.CFunction.{CFunction}
use Rattle.procedure_emission.specs.c_tree.Objects.{Object}
use Rattle.procedure_emission.specs.c_tree.Linking as linking
use Rattle.procedure_emission.specs.c_tree.Meaning.{machine, text_of, main_number, step_factor}
use Rattle.procedure_emission.specs.faithful.StorageImage.{NamesStand, function_number}
use Rattle.procedure_emission.specs.faithful.FrameImage.{ProcedureStands}
use Rattle.procedure_emission.specs.faithful.SameState.{is_inner}
use Rattle.procedure_emission.specs.faithful.Faithful.{SameRuns}
use Rattle.procedure_emission.specs.c_image.World.{World}
use Rattle.procedure_emission.specs.c_image.Standing.{Stands}
use Rattle.procedure_emission.specs.c_emit_laws.EmittedNumbers.{IsKnown}
use Rattle.procedure_emission.specs.emitted_texts.SecondLayer.{Surroundings, Emission, IsFree}
use Rattle.procedure_emission.specs.CallLayer.{CallWorld, IsFrameOf, AreProceduresHeld, call_kit, entered_couple}

-- of each unit its lowered text, what the steps of that cost, without and with what is kept before the first, and its function
pub record Translation : Type 0 where
  pub surroundings : Surroundings
  pub texts : ℕ → Text
  pub own_costs : ℕ → List ℕ
  pub costs : ℕ → List ℕ
  pub emissions : ℕ → Emission
  -- the unit of each function
  pub owner : ℕ → ℕ

-- a unit that may be called: BLOCK DATA is none
abbrev pub MayRun : List ProgramUnit → ℕ → Type 0
MayRun S i = (name : Called) × (found_from 0 S name ≡ Some i)

-- is a function one that only hands on a call of another name
unfoldable pub is_wrapper : Option CFunction → Bool
is_wrapper None = false
is_wrapper (Some function) = not (is_inner (Some function))

-- the units of a program with their functions, through the lowered texts
abbrev pub linking_of : (g : Setting) (S : List ProgramUnit) (files : List CFile) (t : Translation) → Linking (composite_kit lower_kit (call_kit t.surroundings)) (source.program g S) (machine (linking.program files))
linking_of g S files t = record {
  Known = MayRun S;
  pairing = λ i. composite_pairing (lower_pairing (t.texts i)) (entered_couple t.surroundings i (t.texts i) (t.own_costs i) (t.costs i) (t.emissions i)).pairing;
  image = λ i. (t.emissions i).number;
  width = λ i. rest (t.costs i) 0;
  wrapper = λ i n. None;
  inner = λ i. (t.emissions i).number;
  outer = λ k. is_wrapper (slice_get (linking.all_functions files) k);
  owner = t.owner;
}

-- what belongs to an active procedure stands in its frame: where its function knows its names, and its parameters hold the procedures that were passed
abbrev pub FramesStand : List ProgramUnit → List CFile → Surroundings → ℕ → Emission → Type 0
FramesStand S files s i e = (μ : CallWorld) (ν : World) (f : Frame) (kept : Temporaries) (objects : List Object) → IsFrameOf e.writing.facts.program μ f → IsKnown ν e.writing f kept → AreProceduresHeld s e ν f →
    ((k : ℕ) (object : Object) → ν.frozen k ≡ Some object → slice_get objects k ≡ Some object) → ProcedureStands S files ν.homes objects i f

-- one unit and its function
pub record UnitIsTranslated (g : Setting) (S : List ProgramUnit) (files : List CFile) (t : Translation) (i : ℕ) : Type 0 where
  pub unit : ProgramUnit
  pub has : HasUnit S i unit
  pub facts : (t.texts i).facts ≡ facts_at g i (Some unit)
  -- both layers
  pub upper : Local (lower_couple i (t.texts i) (t.costs i))
  pub lower : Local (entered_couple t.surroundings i (t.texts i) (t.own_costs i) (t.costs i) (t.emissions i))
  pub narrow : rest (t.costs i) 0 ≤ step_factor files
  -- its function is one of the program, no wrapper, and that of its name
  pub function : text_of (linking.program files).functions (t.emissions i).number ≡ (t.emissions i).function
  pub own : nat_lt (t.emissions i).number (length (linking.program files).functions) ≡ true
  pub inner : is_inner (slice_get (linking.all_functions files) (t.emissions i).number) ≡ true
  pub named : function_number files unit ≡ Some (t.emissions i).number
  pub called : (name : Called) → found_from 0 S name ≡ Some i → t.surroundings.numbers name ≡ Some (t.emissions i).number
  -- before the first step its frame is nobody's
  pub idle : IsFree (t.surroundings.rooms i) t.surroundings.first
  pub frames : FramesStand S files t.surroundings i (t.emissions i)

-- The set and its texts. Units that are no part of a run have numbers too, behind those of all functions.
pub record IsTranslated (g : Setting) (S : List ProgramUnit) (files : List CFile) (t : Translation) : Type 0 where
  pub units : (i : ℕ) → MayRun S i → UnitIsTranslated g S files t i
  pub owned : (i : ℕ) → t.owner (t.emissions i).number ≡ i
  pub no_wrapper : (i : ℕ) → is_wrapper (slice_get (linking.all_functions files) (t.emissions i).number) ≡ false
  pub some_step : 1 ≤ step_factor files
  -- the main program is the function of its name
  pub main : (i : ℕ) → found_from 0 S TheMain ≡ Some i → main_number (linking.program files) ≡ (t.emissions i).number
  -- the store before the first step, with what DATA defines, stands in the objects with their images
  pub stands : (units : Units) → Stands t.surroundings.first (start_world g S units).store (linking.program files).objects
  pub as_many : length (linking.program files).objects ≡ t.surroundings.objects
  -- each stored name stands in its object
  pub names : NamesStand S g files t.surroundings.first.homes
  pub low : (k : ℕ) (unit : ProgramUnit) (member : Member) (home : Home) → HasUnit S k unit → IsIn member unit.stored → unit_home g k unit member.name ≡ Some home → home.sequence < t.surroundings.first.height

-- THE BRIDGE: each run of the units that comes to no form without meaning is the run of the texts.
abbrev pub CallsRunAlike : Type 0
CallsRunAlike = (g : Setting) (S : List ProgramUnit) (files : List CFile) (t : Translation) → IsTranslated g S files t → (units : Units) (n : ℕ) →
    (act_of (ftn g S units n) ≡ Some NoMeaning → ⊥) → SameRuns S g files units n
