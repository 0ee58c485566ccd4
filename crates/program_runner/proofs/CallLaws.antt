-- Calls of the library that give nothing, in a step (CSTR 149, appendix on the run time library).
use Rattle.std.proofs.Common.{◌≡◌, ℕ, ℤ, true, List, Option, ap, sym, ◌∙◌, subst}
use Rattle.std.specs.Prelude.{Result, Err, slice_get}
use Rattle.c_tree.specs.run_state.Endings.{Ending}
use Rattle.c_tree.specs.run_state.Units.{Units}
use Rattle.c_tree.specs.declared.outcome.CValue.{CValue}
use Rattle.c_tree.specs.Objects.{Object}
use Rattle.c_tree.specs.World.{World, Transfer}
use Rattle.c_tree.specs.Builtins.{signatures}
use Rattle.c_tree.specs.Steps.{Wants, View, may_give, library_called, given_that, replied}
use Rattle.run_library.specs.declared.library.CallBreak.{CallBreak}
use Rattle.run_library.specs.declared.library.CallBreak.TheVariants as broken
use Rattle.run_library.specs.Signatures.{IsCall}
use Rattle.run_library.specs.Replies.{Answers}
use Rattle.run_library.specs.Devices.{ToldOfCall}
use Rattle.program_runner.specs.declared.events.StepEvent.{StepEvent}
use Rattle.program_runner.specs.declared.events.StepFailure.{StepFailure}
use Rattle.program_runner.specs.Events.{broken_of, StepsBy, ToldOfStep}
use Rattle.program_runner.proofs.SignatureLaws.{call-made}
use Rattle.program_runner.proofs.DeviceLaws.{one-call}

broken-steps : {E : Type 0} (ending : List Object → E → Ending) (number : ℕ) (values : List CValue) (view : View) (before : World) (wants : Wants) (stands : Units → Option Transfer → Type 0) (objects : List Object)
    (given : List CValue) (why : CallBreak) (call : IsCall number values) → may_give call.signature.gives wants ≡ true → Answers ending number values before stands objects (Err why) →
    StepsBy ending (library_called view before wants values (slice_get signatures number)) stands objects given (broken_of why)
broken-steps ending number values view before wants stands objects given (broken.Break why) call gives answers = record {
  units = answers.units;
  transfer = answers.transfer;
  stood = answers.stood;
  holds = call-made number values view before wants call gives ∙ ap (λ reply. given_that reply (replied view wants)) (answers.holds.0 call.signature call.known);
}
broken-steps ending number values view before wants stands objects given (broken.Device unit) call gives answers = tt
broken-steps ending number values view before wants stands objects given broken.Uncounted call gives answers = tt

pub call-broken : {E : Type 0} (ending : List Object → E → Ending) (number : ℕ) (values : List CValue) (view : View) (before : World) (wants : Wants) (stands : Units → Option Transfer → Type 0) (objects : List Object)
    (given : List CValue) (why : CallBreak) (result : Result (StepEvent E) StepFailure) → result ≡ broken_of why → (call : IsCall number values) → may_give call.signature.gives wants ≡ true →
    Answers ending number values before stands objects (Err why) → StepsBy ending (library_called view before wants values (slice_get signatures number)) stands objects given result
call-broken ending number values view before wants stands objects given why result is call gives answers =
    subst (StepsBy ending (library_called view before wants values (slice_get signatures number)) stands objects given) (sym is)
    (broken-steps ending number values view before wants stands objects given why call gives answers)

broken-told : {L : Type 0} (E : Type 0) (none_failed : L → L → Type 0) (failed_on : ℤ → L → L → Type 0) (old new : L) (why : CallBreak) →
    ToldOfCall {E = E} none_failed failed_on old new (Err why) → ToldOfStep {E = E} none_failed failed_on old new (broken_of why)
broken-told E none_failed failed_on old new (broken.Break why) told = one-call told
broken-told E none_failed failed_on old new (broken.Device unit) told = told
broken-told E none_failed failed_on old new broken.Uncounted told = one-call told

pub told-broken : {L E : Type 0} (none_failed : L → L → Type 0) (failed_on : ℤ → L → L → Type 0) (old new : L) (why : CallBreak) (result : Result (StepEvent E) StepFailure) → result ≡ broken_of why →
    ToldOfCall {E = E} none_failed failed_on old new (Err why) → ToldOfStep none_failed failed_on old new result
told-broken {E = E} none_failed failed_on old new why result is told =
    subst (ToldOfStep none_failed failed_on old new) (sym is) (broken-told E none_failed failed_on old new why told)
