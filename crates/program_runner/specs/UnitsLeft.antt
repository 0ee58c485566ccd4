-- The units that a step leaves (C89, 3.3.2.2; ANSI X3.9-1978, 12.3; CSTR 149, appendix on the run time library).
use Rattle.std.specs.Prelude.{◌≡◌, ℤ, List, Option, Some, None, Result, Ok, Err}
use Rattle.c_tree.specs.run_state.Units.{Units}
use Rattle.c_tree.specs.Faults.{Break}
use Rattle.c_tree.specs.Objects.{Object}
use Rattle.c_tree.specs.World as world
use Rattle.c_tree.specs.World.{World, Transfer, Reply}
use Rattle.c_tree.specs.Library.{library}
use Rattle.item_deeds.specs.Calls.{LibraryCall}
use Rattle.run_library.specs.Kept.{OthersStand}
use Rattle.run_library.specs.UnitsCalled.{is_on}
use Rattle.run_library.specs.Replies.{KeepsUnits, CountsOn}
use Rattle.program_runner.specs.declared.events.StepEvent.{StepEvent}
use Rattle.program_runner.specs.declared.events.StepFailure.{StepFailure}
use Rattle.program_runner.specs.declared.events.StepFailure.TheVariants as failure
use Rattle.program_runner.specs.declared.runs.RunOutcome.{RunOutcome}
use Rattle.program_runner.specs.declared.runs.RunOutcome.TheVariants as outcome

-- the world that a function of the library left
abbrev pub behind : Reply → World
behind (world.Gives number after) = after
behind (world.Void after) = after
behind (world.Stops ending after) = after

-- a step that makes this call of the library, or none, leaves units and a transfer in progress that stand so; each step is of one of three kinds
pub data UnitsLeft (called : Option LibraryCall) (before : World) (stands : Units → Option Transfer → Type 0) : Type 0 where
  -- it makes none: they are as the step found them
  no_call : called ≡ None → stands before.units before.transfer → UnitsLeft called before stands
  -- its call breaks: they are such as this call keeps that breaks, the units as the step found them unless it is a call of the transfer in progress
  call_breaks : (call : LibraryCall) → called ≡ Some call → (why : Break) → library call.builtin before call.arguments ≡ Err why
      → (after : World) → stands after.units after.transfer → KeepsUnits call.builtin before after → UnitsLeft called before stands
  -- its call replies: they are those of the reply; where the step has a fault then, it is by the store of what the call gave
  call_replied : (call : LibraryCall) → called ≡ Some call → (reply : Reply) → library call.builtin before call.arguments ≡ Ok reply
      → stands (behind reply).units (behind reply).transfer → UnitsLeft called before stands

-- the device of a unit failed in a step: the call of the library that it makes is on that unit, and all other units are as the step found them
pub record FailedOnUnit (called : Option LibraryCall) (before : World) (stands : Units → Option Transfer → Type 0) (unit : ℤ) : Type 0 where
  pub call : LibraryCall
  pub makes : called ≡ Some call
  pub on : is_on call.builtin before call.arguments unit
  pub after : World
  pub stood : stands after.units after.transfer
  pub others : OthersStand unit before.units after.units

-- the call of the library that a step makes is on a unit
pub record CallIsOn (called : Option LibraryCall) (before : World) (unit : ℤ) : Type 0 where
  pub call : LibraryCall
  pub makes : called ≡ Some call
  pub on : is_on call.builtin before call.arguments unit

-- more is to be counted than 64 bits tell, of the unit of the call that a step over some objects makes, and this holds of that unit
abbrev pub CountsIn : (World → Option LibraryCall) → List Object → (Units → Option Transfer → Type 0) → (ℤ → Type 0) → Type 0
CountsIn called objects stood IsFar = CountsOn (λ before unit. CallIsOn (called before) before unit) objects stood IsFar

-- what holds of a step whose call was not to count more than 64 bits tell
abbrev pub LeftByStep : {E : Type 0} → Option LibraryCall → World → (Units → Option Transfer → Type 0) → Result (StepEvent E) StepFailure → Type 0
LeftByStep called before stands (Ok done) = UnitsLeft called before stands
LeftByStep called before stands (Err (failure.Device unit)) = FailedOnUnit called before stands unit
LeftByStep called before stands (Err failure.Uncounted) = Unit {0}

-- the same of a step by which a run breaks, or in which a device failed
abbrev pub LeftByNext : {E : Type 0} → Option LibraryCall → World → (Units → Option Transfer → Type 0) → RunOutcome E → Type 0
LeftByNext called before stands (outcome.Broken why number) = UnitsLeft called before stands
LeftByNext called before stands (outcome.Failed unit) = FailedOnUnit called before stands unit
LeftByNext called before stands how = Unit {0}
