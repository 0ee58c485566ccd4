-- The units that a step leaves, by the call of the library that it makes (CSTR 149, appendix on the run time library).
use Rattle.std.proofs.Common.{◌≡◌, ℕ, ℤ, true, List, Option, Some, length, ap, sym, ◌∙◌, subst}
use Rattle.std.specs.Prelude.{Result, Ok, Err, slice_get}
use Rattle.c_tree.specs.simulation.Machine.{State}
use Rattle.c_tree.specs.run_state.Endings.{Ending}
use Rattle.c_tree.specs.run_state.Units.{Units}
use Rattle.c_tree.specs.declared.outcome.CValue.{CValue}
use Rattle.c_tree.specs.Linking as linking
use Rattle.c_tree.specs.Objects.{Object}
use Rattle.c_tree.specs.World.{World, Transfer}
use Rattle.c_tree.specs.Builtins.{signatures}
use Rattle.c_tree.specs.Meaning.{text_of}
use Rattle.c_tree.specs.Steps.{Wants, View, sorts, may_give}
use Rattle.item_deeds.specs.Deeds.{view_of, world_of}
use Rattle.item_deeds.specs.Calls.{LibraryCall, call_by, next_call}
use Rattle.linked_programs.specs.declared.functions.LinkedFunction.{LinkedFunction}
use Rattle.linked_programs.specs.declared.programs.LinkedProgram.{LinkedProgram}
use Rattle.linked_programs.specs.LinkedPrograms.{function_of, program_of}
use Rattle.run_library.specs.declared.library.LibraryReply.{LibraryReply}
use Rattle.run_library.specs.declared.library.LibraryReply.TheVariants as reply
use Rattle.run_library.specs.declared.library.CallBreak.{CallBreak}
use Rattle.run_library.specs.declared.library.CallBreak.TheVariants as broken
use Rattle.run_library.specs.Signatures.{IsCall}
use Rattle.run_library.specs.Replies.{Answers, break_of, reply_of}
use Rattle.program_runner.specs.declared.stack.CallStack.{CallStack}
use Rattle.program_runner.specs.declared.events.StepEvent.{StepEvent}
use Rattle.program_runner.specs.declared.events.StepFailure.{StepFailure}
use Rattle.program_runner.specs.declared.runs.RunOutcome.{RunOutcome}
use Rattle.program_runner.specs.declared.runs.RunOutcome.TheVariants as outcome
use Rattle.program_runner.specs.Events.{broken_of}
use Rattle.program_runner.specs.Outcomes.{Reaches}
use Rattle.program_runner.specs.UnitsLeft.{behind, UnitsLeft, call_breaks, call_replied, FailedOnUnit, LeftByStep, LeftByNext}
use Rattle.program_runner.proofs.SignatureLaws.{call_to, call-told}
use Rattle.program_runner.proofs.RunLaws.{function-known}

behind-stands : {E : Type 0} (ending : List Object → E → Ending) (stands : Units → Option Transfer → Type 0) (after : World) (given : LibraryReply E) → stands after.units after.transfer →
    stands (behind (reply_of ending after given)).units (behind (reply_of ending after given)).transfer
behind-stands ending stands after (reply.Gives number) stood = stood
behind-stands ending stands after reply.Void stood = stood
behind-stands ending stands after (reply.Stops how) stood = stood

-- a call that replied
pub left-replied : {E : Type 0} (ending : List Object → E → Ending) (number : ℕ) (values : List CValue) (before : World) (wants : Wants) (stands : Units → Option Transfer → Type 0) (after : List Object)
    (given : LibraryReply E) (call : IsCall number values) → may_give call.signature.gives wants ≡ true → Answers ending number values before stands after (Ok given) →
    UnitsLeft (call_by wants values (slice_get signatures number)) before stands
left-replied ending number values before wants stands after given call gives answers =
    call_replied (call_to call.signature values) (call-told number values wants call gives) (reply_of ending (world_of after answers.units answers.transfer) given) (answers.holds call.signature call.known)
    (behind-stands ending stands (world_of after answers.units answers.transfer) given answers.stood)

broken-left : {E : Type 0} (ending : List Object → E → Ending) (number : ℕ) (values : List CValue) (before : World) (wants : Wants) (stands : Units → Option Transfer → Type 0) (after : List Object) (why : CallBreak)
    (call : IsCall number values) → may_give call.signature.gives wants ≡ true → Answers ending number values before stands after (Err why) →
    LeftByStep {E = E} (call_by wants values (slice_get signatures number)) before stands (broken_of why)
broken-left ending number values before wants stands after (broken.Break why) call gives answers =
    call_breaks (call_to call.signature values) (call-told number values wants call gives) (break_of why) (answers.holds.0 call.signature call.known) (world_of after answers.units answers.transfer) answers.stood
    (answers.holds.1 call.signature call.known)
broken-left ending number values before wants stands after (broken.Device unit) call gives answers = record {
  call = call_to call.signature values;
  makes = call-told number values wants call gives;
  on = answers.holds.0 call.signature call.known;
  after = world_of after answers.units answers.transfer;
  stood = answers.stood;
  others = answers.holds.1;
}
broken-left ending number values before wants stands after broken.Uncounted call gives answers = tt

-- a call that gave nothing
pub left-broken : {E : Type 0} (ending : List Object → E → Ending) (number : ℕ) (values : List CValue) (before : World) (wants : Wants) (stands : Units → Option Transfer → Type 0) (after : List Object) (why : CallBreak)
    (result : Result (StepEvent E) StepFailure) → result ≡ broken_of why → (call : IsCall number values) → may_give call.signature.gives wants ≡ true → Answers ending number values before stands after (Err why) →
    LeftByStep (call_by wants values (slice_get signatures number)) before stands result
left-broken ending number values before wants stands after why result is call gives answers =
    subst (LeftByStep (call_by wants values (slice_get signatures number)) before stands) (sym is) (broken-left ending number values before wants stands after why call gives answers)

-- a step that makes the same call, before which the objects are the same
pub left-as : {E : Type 0} (called other : Option LibraryCall) (old new : List Object) (units : Units) (transfer : Option Transfer) (stands : Units → Option Transfer → Type 0) (result : Result (StepEvent E) StepFailure) →
    called ≡ other → new ≡ old → LeftByStep other (world_of new units transfer) stands result → LeftByStep called (world_of old units transfer) stands result
left-as called other old new units transfer stands result same are left =
    subst (λ (one : Option LibraryCall). LeftByStep one (world_of old units transfer) stands result) (sym same)
    (subst (λ (objects : List Object). LeftByStep other (world_of objects units transfer) stands result) are left)

-- a step that does something is none in which a device failed
left-going : {E : Type 0} (ending : List Object → E → Ending) (state : State Ending sorts) (stack : CallStack) (world : World) (called : Option LibraryCall) (before : World) (stands : Units → Option Transfer → Type 0) (how : RunOutcome E) →
    Reaches ending state stack world how → UnitsLeft called before stands → LeftByNext called before stands how
left-going ending state stack world called before stands outcome.Running reached left = tt
left-going ending state stack world called before stands outcome.Returned reached left = tt
left-going ending state stack world called before stands (outcome.Stopped stop) reached left = tt
left-going ending state stack world called before stands (outcome.Broken why number) reached left = left
left-going ending state stack world called before stands (outcome.Failed unit) reached left = absurd reached
left-going ending state stack world called before stands outcome.Uncounted reached left = tt

-- the call of the next step of a run is that of the active function
pub call-of-next : (program : LinkedProgram) (own number : ℕ) (function : LinkedFunction) (view : View) (before : World) → Some function ≡ slice_get program.functions number → own ≡ length program.functions →
    next_call (function_of own function) view before ≡ next_call (text_of (program_of program).functions number) view before
call-of-next program own number function view before is all =
    ap (λ (text : linking.Function). next_call text view before) (ap (λ (n : ℕ). function_of n function) all ∙ sym (function-known program number function (sym is)))

pub next-left : {E : Type 0} (ending : List Object → E → Ending) (state : State Ending sorts) (stack : CallStack) (world : World) (program : LinkedProgram) (own number : ℕ) (function : LinkedFunction) (view : View) (before : World)
    (stands : Units → Option Transfer → Type 0) (how : RunOutcome E) → Reaches ending state stack world how → Some function ≡ slice_get program.functions number → own ≡ length program.functions →
    UnitsLeft (next_call (function_of own function) view before) before stands → LeftByNext (next_call (text_of (program_of program).functions number) view before) before stands how
next-left ending state stack world program own number function view before stands how reached is all left =
    left-going ending state stack world (next_call (text_of (program_of program).functions number) view before) before stands how reached
    (subst (λ (called : Option LibraryCall). UnitsLeft called before stands) (call-of-next program own number function view before is all) left)

-- a step in which a device failed
pub next-failed : (program : LinkedProgram) (own number : ℕ) (function : LinkedFunction) (view : View) (before : World) (stands : Units → Option Transfer → Type 0) (unit : ℤ) →
    Some function ≡ slice_get program.functions number → own ≡ length program.functions → FailedOnUnit (next_call (function_of own function) view before) before stands unit →
    FailedOnUnit (next_call (text_of (program_of program).functions number) view before) before stands unit
next-failed program own number function view before stands unit is all failed =
    subst (λ (called : Option LibraryCall). FailedOnUnit called before stands unit) (call-of-next program own number function view before is all) failed

-- the same step, where neither the stack nor the objects changed before it
pub kept-as : {E : Type 0} (program : LinkedProgram) (old new : CallStack) (before after : List Object) (units : Units) (transfer : Option Transfer) (stands : Units → Option Transfer → Type 0) (how : RunOutcome E) →
    (new ≡ old) × (after ≡ before) →
    LeftByNext (next_call (text_of (program_of program).functions new.top.number) (view_of new.top.view) (world_of after units transfer)) (world_of after units transfer) stands how →
    LeftByNext (next_call (text_of (program_of program).functions old.top.number) (view_of old.top.view) (world_of before units transfer)) (world_of before units transfer) stands how
kept-as program old new before after units transfer stands how same kept =
    subst
    (λ (stack : CallStack).
    LeftByNext (next_call (text_of (program_of program).functions stack.top.number) (view_of stack.top.view) (world_of before units transfer)) (world_of before units transfer) stands how)
    same.0
    (subst
    (λ (objects : List Object).
    LeftByNext (next_call (text_of (program_of program).functions new.top.number) (view_of new.top.view) (world_of objects units transfer)) (world_of objects units transfer) stands how)
    same.1 kept)
