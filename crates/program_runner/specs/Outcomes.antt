-- How a run stands, as the machine of C texts has it (C89, 3.6.6.4).
use Rattle.std.specs.Prelude.{◌≡◌, ℕ, ℤ, List, [], ◌∷◌, Some, Result, Ok, Err, slice_get}
use Rattle.c_tree.specs.simulation.Machine as machine
use Rattle.c_tree.specs.simulation.Machine.{State, Runs, Over}
use Rattle.c_tree.specs.run_state.Endings.{Ending, Plain}
use Rattle.c_tree.specs.declared.outcome.CFault.{CFault}
use Rattle.c_tree.specs.Objects.{Object}
use Rattle.c_tree.specs.World.{World}
use Rattle.c_tree.specs.Faults.{Faults}
use Rattle.c_tree.specs.Steps.{sorts, View}
use Rattle.linked_programs.specs.declared.functions.LinkedFunction.{LinkedFunction}
use Rattle.linked_programs.specs.declared.programs.LinkedProgram.{LinkedProgram}
use Rattle.call_frames.specs.Frames.{HasFrame}
use Rattle.run_library.specs.Replies.{break_of}
use Rattle.run_library.specs.Devices.{NoFailure, FailsAtLast}
use Rattle.program_runner.specs.declared.stack.CallStack.{CallStack}
use Rattle.program_runner.specs.declared.runs.RunOutcome.{RunOutcome}
use Rattle.program_runner.specs.declared.runs.RunOutcome.TheVariants as outcome
use Rattle.program_runner.specs.declared.runs.RunTaken.{RunTaken}
use Rattle.program_runner.specs.Events.{HasRoom}
use Rattle.program_runner.specs.Stacks.{Frames, state_of, IsStack}

-- the frame of each function stands among the objects
abbrev pub FramesStand : LinkedProgram → List Object → Type 0
FramesStand program objects = (number : ℕ) → (function : LinkedFunction) → slice_get program.functions number ≡ Some function → HasFrame function objects

-- so many values are enough for the arguments of each call of the program
abbrev pub HasArgumentRoom : LinkedProgram → ℕ → Type 0
HasArgumentRoom program room = (number : ℕ) → (function : LinkedFunction) → slice_get program.functions number ≡ Some function → HasRoom room function.code

-- a run that is over: at the end of the main program, by the library, or where it cannot go on, in a function
abbrev pub Leaves : {E : Type 0} → (List Object → E → Ending) → State Ending sorts → World → RunOutcome E → Type 0
Leaves ending state world outcome.Running = ⊥
Leaves ending state world outcome.Returned = state ≡ Over Plain [] world
Leaves ending state world (outcome.Stopped how) = (frames : Frames) × (state ≡ Over (ending world.objects how) frames world)
Leaves ending state world (outcome.Broken why number) = (callers : List ℕ) × (state ≡ machine.Broken (break_of why) (number ∷ callers))
Leaves ending state world (outcome.Failed unit) = ⊥
Leaves ending state world outcome.Uncounted = ⊥

-- a run that goes on with these active functions, or is over
abbrev pub Reaches : {E : Type 0} → (List Object → E → Ending) → State Ending sorts → CallStack → World → RunOutcome E → Type 0
Reaches ending state stack world outcome.Running = state ≡ state_of stack world
Reaches ending state stack world over = Leaves ending state world over

-- a run that goes on, or is over
abbrev pub Stands : {E : Type 0} → (List Object → E → Ending) → State Ending sorts → World → RunOutcome E → Type 0
Stands ending state world outcome.Running = (number : ℕ) × (view : View) × (frames : Frames) × (state ≡ Runs number view frames world)
Stands ending state world over = Leaves ending state world over

-- a run that goes on has frames of functions of which none is active twice
abbrev pub KeepsStack : {E : Type 0} → ℕ → CallStack → RunOutcome E → Type 0
KeepsStack functions stack outcome.Running = IsStack functions stack
KeepsStack functions stack over = Unit {0}

-- what is said of a run in which no device failed, and none of whose calls was to count more than 64 bits tell
abbrev pub UnlessFailed : {E : Type 0} → RunOutcome E → Type 0 → Type 0
UnlessFailed (outcome.Failed unit) Holds = Unit {0}
UnlessFailed outcome.Uncounted Holds = Unit {0}
UnlessFailed how Holds = Holds

-- no device failed in the next step of a run, or that of a unit
abbrev pub ToldOfNext : {L E : Type 0} → (L → L → Type 0) → (ℤ → L → L → Type 0) → L → L → RunOutcome E → Type 0
ToldOfNext none_failed failed_on old new (outcome.Failed unit) = failed_on unit old new
ToldOfNext none_failed failed_on old new how = NoFailure none_failed old new

-- no device failed in a run, or that of a unit in its last call of the library
abbrev pub ToldOfRun : {L E : Type 0} → (L → L → Type 0) → (ℤ → L → L → Type 0) → L → L → RunOutcome E → Type 0
ToldOfRun none_failed failed_on old new (outcome.Failed unit) = FailsAtLast none_failed failed_on unit old new
ToldOfRun none_failed failed_on old new how = NoFailure none_failed old new

-- what holds where the call of the next step of a run was to count more than 64 bits tell
abbrev pub UncountedInNext : {E : Type 0} → Type 0 → RunOutcome E → Type 0
UncountedInNext P outcome.Uncounted = P
UncountedInNext P how = Unit {0}

-- the main program begins and is the only active function, or it does not begin by a fault
abbrev pub Begins : State Ending sorts → World → Result CallStack CFault → Type 0
Begins state world (Ok stack) = state ≡ state_of stack world
Begins state world (Err fault) = state ≡ machine.Broken (Faults fault) []

abbrev pub IsRunOf : {E : Type 0} → (List Object → E → Ending) → State Ending sorts → World → Result (RunTaken E) CFault → Type 0
IsRunOf ending state world (Ok ran) = Stands ending state world ran.outcome
IsRunOf ending state world (Err fault) = state ≡ machine.Broken (Faults fault) []

-- what is said of a whole run in which no device failed, and none of whose calls was to count more than 64 bits tell
abbrev pub UnlessRunFailed : {E : Type 0} → Result (RunTaken E) CFault → Type 0 → Type 0
UnlessRunFailed (Ok ran) Holds = UnlessFailed ran.outcome Holds
UnlessRunFailed (Err fault) Holds = Holds

-- the devices of the units in a whole run; where its main program does not begin none is called
abbrev pub ToldOfWholeRun : {L E : Type 0} → (L → L → Type 0) → (ℤ → L → L → Type 0) → L → L → Result (RunTaken E) CFault → Type 0
ToldOfWholeRun none_failed failed_on old new (Ok ran) = ToldOfRun none_failed failed_on old new ran.outcome
ToldOfWholeRun none_failed failed_on old new (Err fault) = NoFailure none_failed old new
