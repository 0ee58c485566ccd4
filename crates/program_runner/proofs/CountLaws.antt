-- What holds of a library whose call was to count more than 64 bits tell, from step to step.
use Rattle.std.proofs.Common.{◌≡◌, ℕ, ℤ, true, List, Option, refl, sym, subst}
use Rattle.std.specs.Prelude.{Result, Ok, Err, slice_get}
use Rattle.c_tree.specs.simulation.Machine.{State}
use Rattle.c_tree.specs.run_state.Endings.{Ending}
use Rattle.c_tree.specs.run_state.Units.{Units}
use Rattle.c_tree.specs.declared.outcome.CValue.{CValue}
use Rattle.c_tree.specs.Objects.{Object}
use Rattle.c_tree.specs.World.{World, Transfer}
use Rattle.c_tree.specs.Builtins.{signatures}
use Rattle.c_tree.specs.Meaning.{text_of}
use Rattle.c_tree.specs.Steps.{Wants, sorts, may_give}
use Rattle.item_deeds.specs.Deeds.{view_of, world_of}
use Rattle.item_deeds.specs.Calls.{LibraryCall, call_by, next_call}
use Rattle.linked_programs.specs.declared.programs.LinkedProgram.{LinkedProgram}
use Rattle.linked_programs.specs.LinkedPrograms.{program_of}
use Rattle.run_library.specs.declared.library.CallBreak.{CallBreak}
use Rattle.run_library.specs.declared.library.CallBreak.TheVariants as broken
use Rattle.run_library.specs.Signatures.{IsCall}
use Rattle.run_library.specs.Replies.{IsOn, UncountedIf, CountsOn}
use Rattle.run_library.proofs.CountLaws.{counts-as}
use Rattle.program_runner.specs.declared.events.StepEvent.{StepEvent}
use Rattle.program_runner.specs.declared.events.StepFailure.{StepFailure}
use Rattle.program_runner.specs.declared.events.StepFailure.TheVariants as failure
use Rattle.program_runner.specs.declared.stack.CallStack.{CallStack}
use Rattle.program_runner.specs.declared.runs.RunOutcome.{RunOutcome}
use Rattle.program_runner.specs.declared.runs.RunOutcome.TheVariants as outcome
use Rattle.program_runner.specs.Events.{broken_of, UncountedInStep}
use Rattle.program_runner.specs.UnitsLeft.{CallIsOn, CountsIn}
use Rattle.program_runner.proofs.SignatureLaws.{call_to, call-told}
use Rattle.program_runner.specs.Outcomes.{Reaches, UncountedInNext}

-- what is said of a call is said of the step that makes it
broken-counts : (E P Q : Type 0) (why : CallBreak) → (P → Q) → UncountedIf {E = E} (Err why) P → UncountedInStep {E = E} Q (broken_of why)
broken-counts E P Q (broken.Break why) makes is = tt
broken-counts E P Q (broken.Device unit) makes is = tt
broken-counts E P Q broken.Uncounted makes is = makes is

pub counts-broken : {E : Type 0} (number : ℕ) (values : List CValue) (wants : Wants) (objects : List Object) (stood : Units → Option Transfer → Type 0) (IsFar : ℤ → Type 0) (why : CallBreak)
    (result : Result (StepEvent E) StepFailure) → result ≡ broken_of why → (call : IsCall number values) → may_give call.signature.gives wants ≡ true →
    UncountedIf {E = E} (Err why) (CountsOn (IsOn number values) objects stood IsFar) → UncountedInStep (CountsIn (λ before. call_by wants values (slice_get signatures number)) objects stood IsFar) result
counts-broken {E} number values wants objects stood IsFar why result is call gives counted =
    subst (UncountedInStep (CountsIn (λ before. call_by wants values (slice_get signatures number)) objects stood IsFar)) (sym is)
    (broken-counts E (CountsOn (IsOn number values) objects stood IsFar) (CountsIn (λ before. call_by wants values (slice_get signatures number)) objects stood IsFar) why
    (counts-as objects objects refl
    (λ units transfer unit on. record { call = call_to call.signature values; makes = call-told number values wants call gives; on = on call.signature call.known }))
    counted)

step-counts : {E : Type 0} (P Q : Type 0) (result : Result (StepEvent E) StepFailure) → (P → Q) → UncountedInStep P result → UncountedInStep Q result
step-counts P Q (Ok done) makes counted = tt
step-counts P Q (Err (failure.Device unit)) makes counted = tt
step-counts P Q (Err failure.Uncounted) makes counted = makes counted

-- a step that makes the same call, before which the objects are the same
pub counted-as : {E : Type 0} (called other : World → Option LibraryCall) (objects objects' : List Object) (stood : Units → Option Transfer → Type 0) (IsFar : ℤ → Type 0) (result : Result (StepEvent E) StepFailure) →
    objects' ≡ objects → ((units : Units) → (transfer : Option Transfer) → called (world_of objects units transfer) ≡ other (world_of objects units transfer)) →
    UncountedInStep (CountsIn other objects' stood IsFar) result → UncountedInStep (CountsIn called objects stood IsFar) result
counted-as called other objects objects' stood IsFar result same is counted =
    step-counts (CountsIn other objects' stood IsFar) (CountsIn called objects stood IsFar) result
    (counts-as objects objects' same
    (λ units transfer unit on. subst (λ (one : Option LibraryCall). CallIsOn one (world_of objects units transfer) unit) (sym (is units transfer)) on))
    counted

-- the next step of a run in which more is to be counted than 64 bits tell, by the step of its active function
pub counts-next : (called other : World → Option LibraryCall) (objects : List Object) (stood : Units → Option Transfer → Type 0) (IsFar : ℤ → Type 0) →
    ((units : Units) → (transfer : Option Transfer) → called (world_of objects units transfer) ≡ other (world_of objects units transfer)) →
    CountsIn other objects stood IsFar → CountsIn called objects stood IsFar
counts-next called other objects stood IsFar is counted =
    counts-as objects objects refl
    (λ units transfer unit on. subst (λ (one : Option LibraryCall). CallIsOn one (world_of objects units transfer) unit) (sym (is units transfer)) on)
    counted

-- the same next step, where neither the stack nor the objects changed before it
pub counted-kept : {E : Type 0} (program : LinkedProgram) (old new : CallStack) (before after : List Object) (stood : Units → Option Transfer → Type 0) (IsFar : ℤ → Type 0) (how : RunOutcome E) →
    (new ≡ old) × (after ≡ before) → UncountedInNext (CountsIn (next_call (text_of (program_of program).functions new.top.number) (view_of new.top.view)) after stood IsFar) how →
    UncountedInNext (CountsIn (next_call (text_of (program_of program).functions old.top.number) (view_of old.top.view)) before stood IsFar) how
counted-kept program old new before after stood IsFar how same counted =
    subst
    (λ (stack : CallStack). UncountedInNext (CountsIn (next_call (text_of (program_of program).functions stack.top.number) (view_of stack.top.view)) before stood IsFar) how) same.0
    (subst
    (λ (objects : List Object). UncountedInNext (CountsIn (next_call (text_of (program_of program).functions new.top.number) (view_of new.top.view)) objects stood IsFar) how) same.1 counted)

-- a run that is said to come to a state is none whose call was to count more than 64 bits tell
pub counts-none : {E : Type 0} (P : Type 0) (ending : List Object → E → Ending) (state : State Ending sorts) (stack : CallStack) (world : World) (how : RunOutcome E) → Reaches ending state stack world how →
    UncountedInNext P how
counts-none P ending state stack world outcome.Running reaches = tt
counts-none P ending state stack world outcome.Returned reaches = tt
counts-none P ending state stack world (outcome.Stopped how) reaches = tt
counts-none P ending state stack world (outcome.Broken why number) reaches = tt
counts-none P ending state stack world (outcome.Failed unit) reaches = tt
counts-none P ending state stack world outcome.Uncounted reaches = absurd reaches
