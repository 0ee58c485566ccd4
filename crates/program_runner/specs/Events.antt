-- What the next step of an active function does, as the meaning of C texts has it (C89, 3.6).
use Rattle.std.specs.Prelude.{◌≡◌, ℕ, ◌+◌, ◌^◌, ◌<◌, ◌≤◌, ℤ, List, take, Option, Some, Result, Ok, Err, slice_get}
use Rattle.c_tree.specs.simulation.Machine as machine
use Rattle.c_tree.specs.run_state.Endings.{Ending}
use Rattle.c_tree.specs.run_state.Units.{Units}
use Rattle.c_tree.specs.declared.outcome.CValue.{CValue}
use Rattle.c_tree.specs.Objects.{Object}
use Rattle.c_tree.specs.World.{World, Transfer}
use Rattle.c_tree.specs.Steps.{Happening}
use Rattle.linked_terms.specs.declared.items.LinkedItem.{LinkedItem}
use Rattle.item_deeds.specs.Deeds.{view_of, argument_count}
use Rattle.run_library.specs.declared.library.CallBreak.{CallBreak}
use Rattle.run_library.specs.declared.library.CallBreak.TheVariants as broken
use Rattle.run_library.specs.Replies.{break_of, StandsIn}
use Rattle.run_library.specs.Devices.{NoFailure}
use Rattle.program_runner.specs.declared.events.StepEvent.{StepEvent}
use Rattle.program_runner.specs.declared.events.StepEvent.TheVariants as event
use Rattle.program_runner.specs.declared.events.StepFailure.{StepFailure}
use Rattle.program_runner.specs.declared.events.StepFailure.TheVariants as failure

-- an event of a function, where the first of some values are those of the arguments of a call
abbrev pub event_of : {E : Type 0} → (List Object → E → Ending) → World → List CValue → StepEvent E → Happening
event_of ending world values (event.Goes next) = machine.Goes (view_of next) world
event_of ending world values (event.Stops view how) = machine.Ends (ending world.objects how) (view_of view) world
event_of ending world values (event.Calls waiting number count) = machine.Calls (view_of waiting) world number (take count values)
event_of ending world values (event.Answers answer) = machine.Answers world answer
event_of ending world values (event.Breaks why) = machine.Breaks (break_of why)

-- the event of a call of a function of the library that gives nothing, or why there is none
abbrev pub broken_of : {E : Type 0} → CallBreak → Result (StepEvent E) StepFailure
broken_of (broken.Break why) = Ok (event.Breaks why)
broken_of (broken.Device unit) = Err (failure.Device unit)
broken_of broken.Uncounted = Err failure.Uncounted

-- a step does this, and leaves objects and a library that stands for the units and the transfer of the world after it; where a device
-- failed, or its call was to count more than 64 bits tell, it has no event
abbrev pub StepsBy : {E : Type 0} → (List Object → E → Ending) → Happening → (Units → Option Transfer → Type 0) → List Object → List CValue → Result (StepEvent E) StepFailure → Type 0
StepsBy ending happens stands objects values (Ok done) = StandsIn stands objects (λ after. happens ≡ event_of ending after values done)
StepsBy ending happens stands objects values (Err why) = Unit {0}

-- no device failed in a step, or that of a unit in its call of the library
abbrev pub ToldOfStep : {L E : Type 0} → (L → L → Type 0) → (ℤ → L → L → Type 0) → L → L → Result (StepEvent E) StepFailure → Type 0
ToldOfStep none_failed failed_on old new (Ok done) = NoFailure none_failed old new
ToldOfStep none_failed failed_on old new (Err (failure.Device unit)) = failed_on unit old new
ToldOfStep none_failed failed_on old new (Err failure.Uncounted) = NoFailure none_failed old new

-- what holds where a step's call of the library was to count more than 64 bits tell
abbrev pub UncountedInStep : {E : Type 0} → Type 0 → Result (StepEvent E) StepFailure → Type 0
UncountedInStep P (Ok done) = Unit {0}
UncountedInStep P (Err (failure.Device unit)) = Unit {0}
UncountedInStep P (Err failure.Uncounted) = P

-- a call of a function stands at a position with one behind it, and its arguments have room
abbrev pub IsCalled : {E : Type 0} → ℕ → ℕ → StepEvent E → Type 0
IsCalled position room (event.Calls waiting number count) = (waiting.position ≡ position) × (position + 1 < 2 ^ 64) × (count ≤ room)
IsCalled position room other = Unit {0}

-- so many values are enough for the arguments of each call
abbrev pub HasRoom : ℕ → List LinkedItem → Type 0
HasRoom room code = (position : ℕ) → (item : LinkedItem) → slice_get code position ≡ Some item → argument_count item ≤ room
