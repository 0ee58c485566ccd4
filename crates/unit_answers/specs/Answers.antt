-- What a call of the library on an external unit answers, as the meaning of C texts has it (CSTR 149, appendix on the run time library).
use Rattle.std.specs.Prelude.{◌≡◌, ℤ, pos, List, Option, Result, Ok, Err, if◌then◌else◌}
use Rattle.std.specs.Ordering.{int_eq}
use Rattle.c_tree.specs.run_state.Units.{Units}
use Rattle.c_tree.specs.Faults.{Or, failing}
use Rattle.c_tree.specs.Objects.{Object}
use Rattle.c_tree.specs.World.{World, Transfer, Reply, Gives, Stops, Io}
use Rattle.c_tree.specs.Transfers.{asked}
use Rattle.f2c_outside.specs.Table.{Row}
use Rattle.f2c_outside.specs.Meaning.{Tells, units_of}
use Rattle.run_state.specs.declared.refusals.UnitRefusal.{UnitRefusal}
use Rattle.run_state.specs.declared.refusals.UnitRefusal.TheVariants.{NotConnected, NotOffered, Taken, PastEnd, Failed}
use Rattle.unit_answers.specs.declared.ends.CallEnd.{CallEnd}
use Rattle.unit_answers.specs.declared.ends.CallEnd.TheVariants.{Fault, Ended, Device}
use Rattle.unit_answers.specs.Failing.{FailedOn, NoneFailed}

-- a number is answered where it is asked for, and ends the run where it is not
abbrev pub numbered_answer : ℤ → ℤ → ℤ → Result ℤ CallEnd
numbered_answer number on_error on_end =
    if int_eq (asked number on_error on_end) (pos 0) then Err (Ended number) else Ok number

abbrev pub refused_answer : ℤ → UnitRefusal → ℤ → ℤ → Result ℤ CallEnd
refused_answer unit NotConnected on_error on_end = numbered_answer (pos 6) on_error on_end
refused_answer unit NotOffered on_error on_end = numbered_answer (pos 7) on_error on_end
refused_answer unit Taken on_error on_end = numbered_answer (pos 8) on_error on_end
refused_answer unit PastEnd on_error on_end = numbered_answer (pos 9) on_error on_end
refused_answer unit Failed on_error on_end = Err (Device unit)

-- the world of a run, by its units
abbrev pub world_with : List Object → Option Transfer → Units → World
world_with objects transfer units = record { objects = objects; units = units; transfer = transfer }

-- a call gives this number and leaves this world, has a fault, or ends the run; where a device failed nothing is said of it
abbrev pub Replies : Or Reply → World → Result ℤ CallEnd → Type 0
Replies meaning after (Ok number) = meaning ≡ Ok (Gives number after)
Replies meaning after (Err (Fault fault)) = meaning ≡ failing fault
Replies meaning after (Err (Ended number)) = meaning ≡ Ok (Stops (Io number) after)
Replies meaning after (Err (Device unit)) = Unit {0}

-- what holds of the unit whose device failed, and what holds where none did
abbrev pub IfDevice : Result ℤ CallEnd → (ℤ → Type 0) → Type 0 → Type 0
IfDevice (Ok number) P Q = Q
IfDevice (Err (Fault fault)) P Q = Q
IfDevice (Err (Ended number)) P Q = Q
IfDevice (Err (Device unit)) P Q = P unit

abbrev pub IfFault : Result ℤ CallEnd → Type 0 → Type 0
IfFault (Ok number) P = Unit {0}
IfFault (Err (Fault fault)) P = P
IfFault (Err (Ended number)) P = Unit {0}
IfFault (Err (Device unit)) P = Unit {0}

-- a call on the rows of the units: where their devices tell their records it replies what its meaning gives over the units that the rows
-- mean; a device fails where it is answered, and nowhere else; at a fault the rows stay as they were
pub record AnswersOn (meaning : Units → Or Reply) (after : Units → World) (old new : List Row) (result : Result ℤ CallEnd) : Type 0 where
  pub tells : Tells old → Tells new
  pub replies : Tells old → Replies (meaning (units_of old)) (after (units_of new)) result
  pub devices : IfDevice result (λ unit. FailedOn unit old new) (NoneFailed old new)
  pub kept : IfFault result (new ≡ old)
