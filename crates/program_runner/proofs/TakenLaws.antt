-- The steps that a run has taken (C89, 3.6.6.4).
use Rattle.std.proofs.Common.{◌≡◌, ℕ, ◌<◌, ℤ, List, [], Option, None, refl, ap, sym, ◌∙◌, subst, arith}
use Rattle.c_tree.specs.simulation.Machine.{State, Program, next, run, begun}
use Rattle.c_tree.specs.run_state.Endings.{Ending}
use Rattle.c_tree.specs.run_state.Units.{Units}
use Rattle.c_tree.specs.Linking as linking
use Rattle.c_tree.specs.Objects.{Object}
use Rattle.c_tree.specs.World.{World, Transfer}
use Rattle.c_tree.specs.Steps.{sorts, language}
use Rattle.c_tree.specs.Meaning.{text_of, machine, main_number, run_of}
use Rattle.linked_programs.specs.declared.programs.LinkedProgram.{LinkedProgram}
use Rattle.linked_programs.specs.LinkedPrograms.{program_of}
use Rattle.item_deeds.specs.Deeds.{view_of, world_of}
use Rattle.item_deeds.specs.Calls.{next_call}
use Rattle.run_library.specs.Replies.{StandsIn}
use Rattle.run_library.specs.Devices.{NoFailure}
use Rattle.program_runner.specs.declared.stack.CallStack.{CallStack}
use Rattle.program_runner.specs.declared.runs.RunOutcome.{RunOutcome}
use Rattle.program_runner.specs.declared.runs.RunOutcome.TheVariants as outcome
use Rattle.program_runner.specs.Outcomes.{Reaches, UnlessFailed, ToldOfNext, UncountedInNext}
use Rattle.program_runner.specs.Stacks.{frames_of, waiting, state_of}
use Rattle.program_runner.specs.UnitsLeft.{LeftByNext, CountsIn}
use Rattle.program_runner.specs.Taken.{GoesOn, IsLast, taken_with, TakenBy}
use Rattle.program_runner.proofs.RunLaws.{next-same, run-from}

-- WITH THE LAST STEP
-- the same for a world with these objects
reached-at : (program : Program sorts) (begun first : CallStack) (old objects : List Object) (stands : Units → Option Transfer → Type 0) (taken : ℕ) (start : World) → start.objects ≡ old →
    StandsIn stands objects (λ world. run language program taken (state_of begun (world_of old start.units start.transfer)) ≡ state_of first world) →
    StandsIn stands objects (λ world. run language program taken (state_of begun start) ≡ state_of first world)
reached-at program begun first old objects stands taken start is reached = record {
  units = reached.units;
  transfer = reached.transfer;
  stood = reached.stood;
  holds = ap (λ (all : List Object). run language program taken (state_of begun (world_of all start.units start.transfer))) is ∙ reached.holds;
}

pub over-taken : {L E : Type 0} (ending : List Object → E → Ending) (program : LinkedProgram) (begun stack after : CallStack) (first objects last : List Object) (stands : L → Units → Option Transfer → Type 0)
    (none_failed : L → L → Type 0) (failed_on : ℤ → L → L → Type 0) (uncounted : ℤ → L → Type 0) (taken steps : ℕ) (old middle new : L) (how : RunOutcome E) →
    ((units : Units) → (transfer : Option Transfer) → stands old units transfer →
    StandsIn (stands middle) objects (λ world. run language (machine (program_of program)) taken (state_of begun (world_of first units transfer)) ≡ state_of stack world)) →
    NoFailure none_failed old middle → ToldOfNext none_failed failed_on middle new how →
    ((units : Units) → (transfer : Option Transfer) → stands middle units transfer →
    UnlessFailed how (StandsIn (stands new) last (λ world. Reaches ending (next language (machine (program_of program)) (state_of stack (world_of objects units transfer))) after world how))) →
    ((units : Units) → (transfer : Option Transfer) → stands middle units transfer →
    LeftByNext (next_call (text_of (program_of program).functions stack.top.number) (view_of stack.top.view) (world_of objects units transfer)) (world_of objects units transfer) (stands new) how) →
    UncountedInNext (CountsIn (next_call (text_of (program_of program).functions stack.top.number) (view_of stack.top.view)) objects (stands middle) (λ unit. uncounted unit new)) how →
    ((how ≡ outcome.Running) → ⊥) → taken < steps →
    TakenBy (program_of program) (λ (before : World). (before.objects ≡ first) × stands old before.units before.transfer) (λ before count. run language (machine (program_of program)) count (state_of begun before))
    stands none_failed failed_on uncounted steps old new (taken_with taken how) how
over-taken ending program begun stack after first objects last stands none_failed failed_on uncounted taken steps old middle new outcome.Running reached quiet told goes left counted not less = absurd (not refl)
over-taken ending program begun stack after first objects last stands none_failed failed_on uncounted taken steps old middle new outcome.Returned reached quiet told goes left counted not less = λ start begins.
    let at = reached-at (machine (program_of program)) begun stack first objects (stands middle) taken start begins.0 (reached start.units start.transfer begins.1) in
    let over = goes at.units at.transfer at.stood in
    record {
      earlier = taken;
      next = omega arith;
      within = omega arith;
      before = world_of objects at.units at.transfer;
      goes = record { number = stack.top.number; view = view_of stack.top.view; frames = frames_of (waiting stack); is = at.holds };
      same = next-same ending (machine (program_of program)) (state_of begun start) (state_of stack (world_of objects at.units at.transfer)) taken steps after (world_of last over.units over.transfer) outcome.Returned at.holds over.holds not less;
    }
over-taken ending program begun stack after first objects last stands none_failed failed_on uncounted taken steps old middle new (outcome.Stopped stop) reached quiet told goes left counted not less = λ start begins.
    let at = reached-at (machine (program_of program)) begun stack first objects (stands middle) taken start begins.0 (reached start.units start.transfer begins.1) in
    let over = goes at.units at.transfer at.stood in
    record {
      earlier = taken;
      next = omega arith;
      within = omega arith;
      before = world_of objects at.units at.transfer;
      goes = record { number = stack.top.number; view = view_of stack.top.view; frames = frames_of (waiting stack); is = at.holds };
      same = next-same ending (machine (program_of program)) (state_of begun start) (state_of stack (world_of objects at.units at.transfer)) taken steps after (world_of last over.units over.transfer) (outcome.Stopped stop) at.holds over.holds not less;
    }
over-taken ending program begun stack after first objects last stands none_failed failed_on uncounted taken steps old middle new (outcome.Broken why number) reached quiet told goes left counted not less = λ start begins.
    let at = reached-at (machine (program_of program)) begun stack first objects (stands middle) taken start begins.0 (reached start.units start.transfer begins.1) in
    let over = goes at.units at.transfer at.stood in
    record {
      last = record {
        earlier = taken;
        next = omega arith;
        within = omega arith;
        before = world_of objects at.units at.transfer;
        goes = record { number = stack.top.number; view = view_of stack.top.view; frames = frames_of (waiting stack); is = at.holds };
        same = next-same ending (machine (program_of program)) (state_of begun start) (state_of stack (world_of objects at.units at.transfer)) taken steps after (world_of last over.units over.transfer) (outcome.Broken why number) at.holds over.holds not less;
      };
      units = left at.units at.transfer at.stood;
    }
over-taken ending program begun stack after first objects last stands none_failed failed_on uncounted taken steps old middle new (outcome.Failed unit) reached quiet told goes left counted not less = record {
  within = less;
  middle = middle;
  none = quiet;
  failed = told;
  stood = λ start begins.
      let at = reached-at (machine (program_of program)) begun stack first objects (stands middle) taken start begins.0 (reached start.units start.transfer begins.1) in
      record {
        world = world_of objects at.units at.transfer;
        goes = record { number = stack.top.number; view = view_of stack.top.view; frames = frames_of (waiting stack); is = at.holds };
        stood = at.stood;
        calls = left at.units at.transfer at.stood;
      };
}
over-taken ending program begun stack after first objects last stands none_failed failed_on uncounted taken steps old middle new outcome.Uncounted reached quiet told goes left counted not less = record {
  within = less;
  middle = middle;
  none = quiet;
  quiet = told;
  unit = counted.unit;
  far = counted.far;
  stood = λ start begins.
      let at = reached-at (machine (program_of program)) begun stack first objects (stands middle) taken start begins.0 (reached start.units start.transfer begins.1) in
      record {
        world = world_of objects at.units at.transfer;
        goes = record { number = stack.top.number; view = view_of stack.top.view; frames = frames_of (waiting stack); is = at.holds };
        stood = at.stood;
        calls = counted.on at.units at.transfer at.stood;
      };
}

pub taken-so : {S L E : Type 0} (program : linking.Program) (begins : S → Type 0) (states : S → ℕ → State Ending sorts) (stands : L → Units → Option Transfer → Type 0) (none_failed : L → L → Type 0)
    (failed_on : ℤ → L → L → Type 0) (uncounted : ℤ → L → Type 0) (steps : ℕ) (old new : L) (taken all : ℕ) (how result : RunOutcome E) → result ≡ how → all ≡ taken_with taken how →
    TakenBy program begins states stands none_failed failed_on uncounted steps old new (taken_with taken how) how → TakenBy program begins states stands none_failed failed_on uncounted steps old new all result
taken-so {E = E} program begins states stands none_failed failed_on uncounted steps old new taken all how result is counted by =
    subst (λ (n : ℕ). TakenBy program begins states stands none_failed failed_on uncounted steps old new n result) (sym counted)
    (subst (λ (r : RunOutcome E). TakenBy program begins states stands none_failed failed_on uncounted steps old new (taken_with taken how) r) (sym is) by)

-- THE SAME STATES, FROM OTHER BEGINNINGS
abbrev goes-as : (states other : ℕ → State Ending sorts) (taken : ℕ) (world : World) → ((n : ℕ) → other n ≡ states n) → GoesOn states taken world → GoesOn other taken world
goes-as states other taken world same goes = record { number = goes.number; view = goes.view; frames = goes.frames; is = same taken ∙ goes.is }

abbrev last-as : (states other : ℕ → State Ending sorts) (steps taken : ℕ) → ((n : ℕ) → other n ≡ states n) → IsLast states steps taken → IsLast other steps taken
last-as states other steps taken same last = record {
  earlier = last.earlier;
  next = last.next;
  within = last.within;
  before = last.before;
  goes = record { number = last.goes.number; view = last.goes.view; frames = last.goes.frames; is = same last.earlier ∙ last.goes.is };
  same = same taken ∙ last.same ∙ sym (same steps);
}

pub taken-as : {S T L E : Type 0} (program : linking.Program) (begins : S → Type 0) (states : S → ℕ → State Ending sorts) (begins' : T → Type 0) (states' : T → ℕ → State Ending sorts)
    (stands : L → Units → Option Transfer → Type 0) (none_failed : L → L → Type 0) (failed_on : ℤ → L → L → Type 0) (uncounted : ℤ → L → Type 0) (steps : ℕ) (old new : L) (taken : ℕ) (how : RunOutcome E) (at : T → S) →
    ((start : T) → begins' start → begins (at start)) → ((start : T) → begins' start → (n : ℕ) → states' start n ≡ states (at start) n) →
    TakenBy program begins states stands none_failed failed_on uncounted steps old new taken how → TakenBy program begins' states' stands none_failed failed_on uncounted steps old new taken how
taken-as program begins states begins' states' stands none_failed failed_on uncounted steps old new taken outcome.Running at from same by = by
taken-as program begins states begins' states' stands none_failed failed_on uncounted steps old new taken outcome.Returned at from same by = λ start begun.
    last-as (states (at start)) (states' start) steps taken (same start begun) (by (at start) (from start begun))
taken-as program begins states begins' states' stands none_failed failed_on uncounted steps old new taken (outcome.Stopped stop) at from same by = λ start begun.
    last-as (states (at start)) (states' start) steps taken (same start begun) (by (at start) (from start begun))
taken-as program begins states begins' states' stands none_failed failed_on uncounted steps old new taken (outcome.Broken why number) at from same by = λ start begun. record {
  last = last-as (states (at start)) (states' start) steps taken (same start begun) (by (at start) (from start begun)).last;
  units = (by (at start) (from start begun)).units;
}
taken-as program begins states begins' states' stands none_failed failed_on uncounted steps old new taken (outcome.Failed unit) at from same by = record {
  within = by.within;
  middle = by.middle;
  none = by.none;
  failed = by.failed;
  stood = λ start begun.
      let behind = by.stood (at start) (from start begun) in
      record { world = behind.world; goes = goes-as (states (at start)) (states' start) taken behind.world (same start begun) behind.goes; stood = behind.stood; calls = behind.calls };
}
taken-as program begins states begins' states' stands none_failed failed_on uncounted steps old new taken outcome.Uncounted at from same by = record {
  within = by.within;
  middle = by.middle;
  none = by.none;
  quiet = by.quiet;
  unit = by.unit;
  far = by.far;
  stood = λ start begun.
      let behind = by.stood (at start) (from start begun) in
      record { world = behind.world; goes = goes-as (states (at start)) (states' start) taken behind.world (same start begun) behind.goes; stood = behind.stood; calls = behind.calls };
}

-- the states of a whole run, by the one in which it begins
pub whole-same : (program : linking.Program) (units : Units) (old new : List Object) (stack : CallStack) → old ≡ program.objects →
    begun language (machine program) (main_number program) [] (world_of old units None) ≡ state_of stack (world_of new units None) → (n : ℕ) →
    run_of program units n ≡ run language (machine program) n (state_of stack (world_of new units None))
whole-same program units old new stack are begins n = run-from program units n old None are refl ∙ ap (run language (machine program) n) begins
