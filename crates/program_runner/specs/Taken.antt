-- How many steps a run has taken, and how it stood before the last of them (C89, 3.6.6.4; ANSI X3.9-1978, 12.3).
use Rattle.std.specs.Prelude.{◌≡◌, ℕ, suc, ◌+◌, ◌<◌, ◌≤◌, ℤ, Option}
use Rattle.c_tree.specs.simulation.Machine.{State, Runs}
use Rattle.c_tree.specs.run_state.Endings.{Ending}
use Rattle.c_tree.specs.run_state.Units.{Units}
use Rattle.c_tree.specs.World.{World, Transfer}
use Rattle.c_tree.specs.Linking as linking
use Rattle.c_tree.specs.Meaning.{text_of}
use Rattle.c_tree.specs.Steps.{sorts, View}
use Rattle.item_deeds.specs.Calls.{LibraryCall, next_call}
use Rattle.run_library.specs.Devices.{NoFailure}
use Rattle.program_runner.specs.declared.runs.RunOutcome.{RunOutcome}
use Rattle.program_runner.specs.declared.runs.RunOutcome.TheVariants as outcome
use Rattle.program_runner.specs.Stacks.{Frames}
use Rattle.program_runner.specs.UnitsLeft.{UnitsLeft, FailedOnUnit, CallIsOn}

-- after so many steps of a run, whose states these are by the number of steps, it goes on, in this world
pub record GoesOn (states : ℕ → State Ending sorts) (taken : ℕ) (world : World) : Type 0 where
  pub number : ℕ
  pub view : View
  pub frames : Frames
  pub is : states taken ≡ Runs number view frames world

-- a run that may take so many steps is over by the last of those that it took, and was not before it
pub record IsLast (states : ℕ → State Ending sorts) (steps taken : ℕ) : Type 0 where
  pub earlier : ℕ
  pub next : taken ≡ suc earlier
  pub within : taken ≤ steps
  -- the world before that step
  pub before : World
  pub goes : GoesOn states earlier before
  pub same : states taken ≡ states steps

-- how many steps a run has taken behind so many, by how the next one leaves it
abbrev pub taken_with : {E : Type 0} → ℕ → RunOutcome E → ℕ
taken_with taken (outcome.Failed unit) = taken
taken_with taken outcome.Uncounted = taken
taken_with taken how = taken + 1

-- a run of a program breaks by its last step; the units that it left are known by the call of the library that this step made, if it made one
pub record IsBroken (program : linking.Program) (states : ℕ → State Ending sorts) (stands : Units → Option Transfer → Type 0) (steps taken : ℕ) : Type 0 where
  pub last : IsLast states steps taken
  pub units : UnitsLeft (next_call (text_of program.functions last.goes.number) last.goes.view last.before) last.before stands

-- for each way to begin
abbrev pub ForEach : {S : Type 0} → (S → Type 0) → (S → Type 0) → Type 0
ForEach {S} begins Holds = (start : S) → begins start → Holds start

-- a run of a program goes on after so many steps, and a library stands for the units and the transfer of its world; of the call that the next step makes there this
-- holds
pub record StandsBehind (program : linking.Program) (states : ℕ → State Ending sorts) (stands : Units → Option Transfer → Type 0) (Calls : Option LibraryCall → World → Type 0) (taken : ℕ) : Type 0 where
  pub world : World
  pub goes : GoesOn states taken world
  pub stood : stands world.units world.transfer
  pub calls : Calls (next_call (text_of program.functions goes.number) goes.view world) world

-- the device of a unit failed in the step behind those that were taken, and none before: the library between. That step makes a call on the unit, and leaves all other units as
-- they stand there
pub record FailsBehind {S L : Type 0} (program : linking.Program) (begins : S → Type 0) (states : S → ℕ → State Ending sorts) (stands : L → Units → Option Transfer → Type 0) (none_failed : L → L → Type 0) (failed_on : ℤ → L → L → Type 0)
    (steps : ℕ) (old new : L) (taken : ℕ) (unit : ℤ) : Type 0 where
  pub within : taken < steps
  pub middle : L
  pub none : NoFailure none_failed old middle
  pub failed : failed_on unit middle new
  pub stood : ForEach begins (λ start. StandsBehind program (states start) (stands middle) (λ called world. FailedOnUnit called world (stands new) unit) taken)

-- more was to be counted of a unit than 64 bits tell in the step behind those that were taken: the library between. That step makes a call on the unit, of which this
-- holds behind it, and no device failed
pub record CountsBehind {S L : Type 0} (program : linking.Program) (begins : S → Type 0) (states : S → ℕ → State Ending sorts) (stands : L → Units → Option Transfer → Type 0) (none_failed : L → L → Type 0) (uncounted : ℤ → L → Type 0)
    (steps : ℕ) (old new : L) (taken : ℕ) : Type 0 where
  pub within : taken < steps
  pub middle : L
  pub none : NoFailure none_failed old middle
  pub quiet : NoFailure none_failed middle new
  pub unit : ℤ
  pub far : uncounted unit new
  pub stood : ForEach begins (λ start. StandsBehind program (states start) (stands middle) (λ called world. CallIsOn called world unit) taken)

-- the steps that a run of a program has taken, by how it stands: all that it may; with the last, by which it is over; or those before the one in
-- which a device failed, or more was to be counted than 64 bits tell
abbrev pub TakenBy : {S L E : Type 0} → linking.Program → (S → Type 0) → (S → ℕ → State Ending sorts) → (L → Units → Option Transfer → Type 0) → (L → L → Type 0) → (ℤ → L → L → Type 0) → (ℤ → L → Type 0) → ℕ → L → L → ℕ → RunOutcome E → Type 0
TakenBy program begins states stands none_failed failed_on uncounted steps old new taken outcome.Running = taken ≡ steps
TakenBy program begins states stands none_failed failed_on uncounted steps old new taken outcome.Returned = ForEach begins (λ start. IsLast (states start) steps taken)
TakenBy program begins states stands none_failed failed_on uncounted steps old new taken (outcome.Stopped how) = ForEach begins (λ start. IsLast (states start) steps taken)
TakenBy program begins states stands none_failed failed_on uncounted steps old new taken (outcome.Broken why number) = ForEach begins (λ start. IsBroken program (states start) (stands new) steps taken)
TakenBy program begins states stands none_failed failed_on uncounted steps old new taken (outcome.Failed unit) = FailsBehind program begins states stands none_failed failed_on steps old new taken unit
TakenBy program begins states stands none_failed failed_on uncounted steps old new taken outcome.Uncounted = CountsBehind program begins states stands none_failed uncounted steps old new taken
