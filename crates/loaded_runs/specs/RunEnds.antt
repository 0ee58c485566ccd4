-- How a run of C files over external units ends (C89, 3.6.6.4; ANSI X3.9-1978, 11.12, 12.7 and 12.10.2.1).
use Rattle.std.specs.Prelude.{◌≡◌, ℕ, suc, ◌<◌, ◌≤◌, ℤ, List, Option, Some, None, Result, Ok, Err}
use Rattle.c_tree.specs.simulation.Machine.{State, Runs, Over, Broken}
use Rattle.c_tree.specs.run_state.Endings.{Ending}
use Rattle.c_tree.specs.run_state.Units.{Units}
use Rattle.c_tree.specs.declared.outcome.CFault.{CFault}
use Rattle.c_tree.specs.declared.file.CFile.{CFile}
use Rattle.c_tree.specs.Objects.{Object}
use Rattle.c_tree.specs.Linking.{program}
use Rattle.c_tree.specs.Steps.{sorts}
use Rattle.c_tree.specs.Meaning as meaning
use Rattle.c_tree.specs.Meaning.{text_of}
use Rattle.f2c_outside.specs.Table.{Row}
use Rattle.f2c_outside.specs.Meaning.{Tells, units_of}
use Rattle.f2c_outside.specs.Finishing.{OnDevice, EachRow, WasFinished, IsFirstFault}
use Rattle.linked_programs.specs.LinkedPrograms.{program_of}
use Rattle.linked_programs.specs.declared.programs.LinkedProgram.{LinkedProgram}
use Rattle.unit_answers.specs.Failing.{NoneFailed, FailedOn}
use Rattle.item_deeds.specs.Calls.{next_call}
use Rattle.run_library.specs.Devices.{NoFailure}
use Rattle.run_library.specs.declared.library.RunBreak.TheVariants as reason
use Rattle.program_runner.specs.UnitsLeft.{UnitsLeft, FailedOnUnit, CallIsOn}
use Rattle.program_runner.specs.declared.runs.RunTaken.{RunTaken}
use Rattle.program_runner.specs.declared.runs.RunOutcome.{RunOutcome}
use Rattle.program_runner.specs.declared.runs.RunOutcome.TheVariants as ran
use Rattle.unit_library.specs.declared.endings.RunEnding.{RunEnding}
use Rattle.unit_library.specs.declared.endings.RunEnding.TheVariants as ending
use Rattle.unit_library.specs.Endings.{ending_of}
use Rattle.unit_library.specs.Uncounted.{IsFarBehind}
use Rattle.loaded_runs.specs.declared.ends.RunEnd.{RunEnd}
use Rattle.loaded_runs.specs.declared.ends.RunEnd.TheVariants.{Running, Ended, Broken as BrokenBy, Unbegun, Failed, Uncounted}

abbrev pub outcome_end : RunOutcome RunEnding → RunEnd
outcome_end ran.Running = Running
outcome_end ran.Returned = Ended ending.Plain
outcome_end (ran.Stopped how) = Ended how
outcome_end (ran.Broken reason function) = BrokenBy reason function
outcome_end (ran.Failed unit) = Failed unit
outcome_end ran.Uncounted = Uncounted

abbrev pub end_of : Result (RunTaken RunEnding) CFault → RunEnd
end_of (Ok taken) = outcome_end taken.outcome
end_of (Err fault) = Unbegun fault

-- a run whose main program does not begin takes no step
abbrev pub steps_of : Result (RunTaken RunEnding) CFault → ℕ
steps_of (Ok taken) = taken.steps
steps_of (Err fault) = 0

-- ## What the meaning of C texts has

-- the units as a run leaves them that goes on or has ended; of one that is broken nothing is said
abbrev pub units_in : State Ending sorts → Option Units
units_in (Runs number view frames world) = Some world.units
units_in (Over ending frames world) = Some world.units
units_in (Broken why numbers) = None

-- a run of the definitions that ends so, and leaves these units and objects; where a device failed, or a call was to count more than 64 bits
-- tell, nothing is said of it
abbrev pub EndsBy : State Ending sorts → Units → List Object → RunEnd → Type 0
EndsBy state units objects Running = (meaning.outcome state ≡ meaning.Running) × (units_in state ≡ Some units)
EndsBy state units objects (Ended how) = (meaning.outcome state ≡ meaning.Ended (ending_of objects how)) × (units_in state ≡ Some units)
EndsBy state units objects (BrokenBy (reason.Fault fault) number) = meaning.outcome state ≡ meaning.Fault fault number
EndsBy state units objects (BrokenBy reason.Meaningless number) = ⊥
EndsBy state units objects (Unbegun fault) = ⊥
EndsBy state units objects (Failed unit) = Unit {0}
EndsBy state units objects Uncounted = Unit {0}

-- ## How many steps a run takes

-- after so many steps, which are fewer than it may take, a run of the definitions goes on, with these units
pub record IsGoingOn (files : List CFile) (units : Units) (steps taken : ℕ) (now : Units) : Type 0 where
  pub within : taken < steps
  pub outcome : meaning.outcome (meaning.meaning files units taken) ≡ meaning.Running
  pub units_now : units_in (meaning.meaning files units taken) ≡ Some now

-- it is over by the last of so many steps, the least number: before that step it goes on, and behind it nothing changes
pub record IsOverBy (files : List CFile) (units : Units) (steps taken : ℕ) : Type 0 where
  pub before : ℕ
  pub last : taken ≡ suc before
  pub within : taken ≤ steps
  pub goes : meaning.outcome (meaning.meaning files units before) ≡ meaning.Running
  pub stays : meaning.meaning files units taken ≡ meaning.meaning files units steps

-- the step of a run that goes on so leaves these units: where it makes no call of the library, those that it found; where its call replies, those of the reply; and where its
-- call breaks, such as this call keeps that breaks: those that it found, unless it is a call of the transfer in progress, and then all but the unit of that transfer stand so
abbrev pub LeavesUnits : List CFile → State Ending sorts → Units → Type 0
LeavesUnits files (Runs number view frames world) left = UnitsLeft (next_call (text_of (program files).functions number) view world) world (λ units transfer. units ≡ left)
LeavesUnits files (Over ending frames world) left = ⊥
LeavesUnits files (Broken why numbers) left = ⊥

-- that step makes a call of the library on a unit, whose device fails, and leaves these units, all but that one as it found them
abbrev pub CallsOn : List CFile → State Ending sorts → ℤ → Units → Type 0
CallsOn files (Runs number view frames world) unit left = FailedOnUnit (next_call (text_of (program files).functions number) view world) world (λ units transfer. units ≡ left) unit
CallsOn files (Over ending frames world) unit left = ⊥
CallsOn files (Broken why numbers) unit left = ⊥

-- it is broken by the last of so many steps, which leaves these units
pub record IsBrokenBy (files : List CFile) (units : Units) (steps taken : ℕ) (left : Units) : Type 0 where
  pub over : IsOverBy files units steps taken
  pub leaves : LeavesUnits files (meaning.meaning files units over.before) left

-- a run that ends so has taken so many steps; where a call was to count more than 64 bits tell, and where a device failed, what is said of that has them
abbrev pub IsReached : List CFile → Units → ℕ → Units → ℕ → RunEnd → Type 0
IsReached files units steps left taken Running = taken ≡ steps
IsReached files units steps left taken (Ended how) = IsOverBy files units steps taken
IsReached files units steps left taken (BrokenBy why number) = IsBrokenBy files units steps taken left
IsReached files units steps left taken (Unbegun fault) = taken ≡ 0
IsReached files units steps left taken (Failed unit) = Unit {0}
IsReached files units steps left taken Uncounted = Unit {0}

-- ## More to be counted than 64 bits tell

-- the step of a run that goes on so makes a call of the library on a unit
abbrev pub MakesCallOn : List CFile → State Ending sorts → ℤ → Type 0
MakesCallOn files (Runs number view frames world) unit = CallIsOn (next_call (text_of (program files).functions number) view world) world unit
MakesCallOn files (Over ending frames world) unit = ⊥
MakesCallOn files (Broken why numbers) unit = ⊥

-- more was to be counted of a unit than 64 bits tell, in a call on that unit which the step behind so many makes: the run of the definitions goes on there, with the units as
-- the call found them, no device having failed; and behind the call the unit stands behind 2^53 records or more
pub record CountsInRun (files : List CFile) (steps taken : ℕ) (b a : List Row) : Type 0 where
  pub unit : ℤ
  pub middle : List Row
  pub none : NoFailure NoneFailed b middle
  pub goes : Tells b → IsGoingOn files (units_of b) steps taken (units_of middle)
  pub calls : Tells b → MakesCallOn files (meaning.meaning files (units_of b) taken) unit
  pub far : IsFarBehind unit a

abbrev pub IsUncounted : List CFile → ℕ → ℕ → List Row → List Row → RunEnd → Type 0
IsUncounted files steps taken b a Uncounted = CountsInRun files steps taken b a
IsUncounted files steps taken b a how = Unit {0}

-- ## Devices

-- no device failed
abbrev pub IsNoFailure : RunEnd → Type 0
IsNoFailure how = (unit : ℤ) → how ≡ Failed unit → ⊥

-- the devices of the connected units were finished
abbrev pub AreFinished : List Row → List Row → Type 0
AreFinished b a = EachRow (OnDevice (λ own d d'. WasFinished d d')) b a

-- no device failed in a run, nor when they were finished behind it
pub record NoDeviceFailed (b a : List Row) : Type 0 where
  pub middle : List Row
  pub none : NoFailure NoneFailed b middle
  pub finished : AreFinished middle a

-- the device of a unit was the first that failed, in a call on that unit which the step behind so many makes: the run of the definitions goes on there, with the units
-- as the call found them, and all others stand so behind it
pub record FailsInRun (files : List CFile) (steps taken : ℕ) (unit : ℤ) (b a : List Row) : Type 0 where
  pub middle : List Row
  pub none : NoFailure NoneFailed b middle
  pub failed : FailedOn unit middle a
  pub goes : Tells b → IsGoingOn files (units_of b) steps taken (units_of middle)
  pub calls : Tells b → CallsOn files (meaning.meaning files (units_of b) taken) unit (units_of a)

-- or, none having failed in the run, which is over or has taken its steps, when the devices were finished behind it
pub record FailsBehindRun (files : List CFile) (steps taken : ℕ) (objects : List Object) (unit : ℤ) (b a : List Row) : Type 0 where
  pub middle : List Row
  pub none : NoFailure NoneFailed b middle
  pub first : IsFirstFault unit middle a
  pub end : RunEnd
  pub no_failure : IsNoFailure end
  pub meant : Tells b → EndsBy (meaning.meaning files (units_of b) steps) (units_of middle) objects end
  pub reached : Tells b → IsReached files (units_of b) steps (units_of middle) taken end
  pub uncounted : IsUncounted files steps taken b middle end

pub data DeviceFailed (files : List CFile) (steps taken : ℕ) (objects : List Object) (unit : ℤ) (b a : List Row) : Type 0 where
  in_the_run : FailsInRun files steps taken unit b a → DeviceFailed files steps taken objects unit b a
  behind_it : FailsBehindRun files steps taken objects unit b a → DeviceFailed files steps taken objects unit b a

-- the devices in a run alone, before they are finished
abbrev pub DevicesInRun : List CFile → ℕ → ℕ → List Row → List Row → RunEnd → Type 0
DevicesInRun files steps taken b a (Failed unit) = FailsInRun files steps taken unit b a
DevicesInRun files steps taken b a how = NoFailure NoneFailed b a

-- and with that
abbrev pub DevicesOf : List CFile → ℕ → ℕ → List Object → List Row → List Row → RunEnd → Type 0
DevicesOf files steps taken objects b a (Failed unit) = DeviceFailed files steps taken objects unit b a
DevicesOf files steps taken objects b a how = NoDeviceFailed b a

-- how finishing the devices behind a run changes how it ended
pub data Finishes (b a : List Row) (before : RunEnd) : RunEnd → Type 0 where
  failed_before : (unit : ℤ) → before ≡ Failed unit → a ≡ b → Finishes b a before (Failed unit)
  finished : IsNoFailure before → AreFinished b a → units_of a ≡ units_of b → Finishes b a before before
  failed_now : (unit : ℤ) → IsNoFailure before → IsFirstFault unit b a → Finishes b a before (Failed unit)

-- ## Runs

-- a run of the program to which files are linked, over the units for which rows stand, so many steps at most, of which it takes so many, from its main program on
pub record IsRun (files : List CFile) (steps : ℕ) (b a : List Row) (made : LinkedProgram) (objects : List Object) (how : RunEnd) (taken : ℕ) : Type 0 where
  pub linked : program_of made ≡ program files
  pub meant : Tells b → EndsBy (meaning.meaning files (units_of b) steps) (units_of a) objects how
  pub reached : Tells b → IsReached files (units_of b) steps (units_of a) taken how
  pub devices : DevicesOf files steps taken objects b a how
  pub uncounted : IsUncounted files steps taken b a how
