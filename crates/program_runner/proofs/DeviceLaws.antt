-- The devices of the units in steps and runs, one after the other (ANSI X3.9-1978, section 12).
use Rattle.std.specs.Prelude.{ℤ, List, [], None}
use Rattle.c_tree.specs.simulation.Machine.{State}
use Rattle.c_tree.specs.run_state.Endings.{Ending}
use Rattle.c_tree.specs.run_state.Units.{Units}
use Rattle.c_tree.specs.Objects.{Object}
use Rattle.c_tree.specs.World.{World}
use Rattle.c_tree.specs.Steps.{sorts}
use Rattle.run_library.specs.Devices.{NoFailure, no_call, one_more}
use Rattle.program_runner.specs.declared.stack.CallStack.{CallStack}
use Rattle.program_runner.specs.declared.runs.RunOutcome.{RunOutcome}
use Rattle.program_runner.specs.declared.runs.RunOutcome.TheVariants as outcome
use Rattle.program_runner.specs.Outcomes.{Reaches, ToldOfNext, ToldOfRun}

pub joined : {L : Type 0} {none_failed : L → L → Type 0} {first middle last : L} → NoFailure none_failed first middle → NoFailure none_failed middle last → NoFailure none_failed first last
joined before no_call = before
joined before (one_more still after calls call) = one_more still after (joined before calls) call

pub one-call : {L : Type 0} {none_failed : L → L → Type 0} {old new : L} → none_failed old new → NoFailure none_failed old new
one-call {L} {none_failed} {old} {new} call = one_more old new no_call call

-- units of which none is connected and none is offered
pub no_units : Units
no_units = record { connected = λ asked. None; drawer = [] }

-- a run that is said to come to a state is none in which a device failed
pub told-going : {L E : Type 0} (none_failed : L → L → Type 0) (failed_on : ℤ → L → L → Type 0) (old new : L) (ending : List Object → E → Ending) (state : State Ending sorts) (stack : CallStack) (world : World) (how : RunOutcome E) →
    NoFailure none_failed old new → Reaches ending state stack world how → ToldOfNext none_failed failed_on old new how
told-going none_failed failed_on old new ending state stack world outcome.Running calls reaches = calls
told-going none_failed failed_on old new ending state stack world outcome.Returned calls reaches = calls
told-going none_failed failed_on old new ending state stack world (outcome.Stopped how) calls reaches = calls
told-going none_failed failed_on old new ending state stack world (outcome.Broken why number) calls reaches = calls
told-going none_failed failed_on old new ending state stack world (outcome.Failed unit) calls reaches = absurd reaches
told-going none_failed failed_on old new ending state stack world outcome.Uncounted calls reaches = absurd reaches

pub told-further : {L E : Type 0} (none_failed : L → L → Type 0) (failed_on : ℤ → L → L → Type 0) (first middle last : L) (how : RunOutcome E) →
    NoFailure none_failed first middle → ToldOfNext none_failed failed_on middle last how → ToldOfRun none_failed failed_on first last how
told-further none_failed failed_on first middle last outcome.Running calls told = joined calls told
told-further none_failed failed_on first middle last outcome.Returned calls told = joined calls told
told-further none_failed failed_on first middle last (outcome.Stopped how) calls told = joined calls told
told-further none_failed failed_on first middle last (outcome.Broken why number) calls told = joined calls told
told-further none_failed failed_on first middle last (outcome.Failed unit) calls told = record { before = middle; none = calls; failed = told }
told-further none_failed failed_on first middle last outcome.Uncounted calls told = joined calls told
