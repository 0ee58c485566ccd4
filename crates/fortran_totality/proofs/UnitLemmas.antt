-- What is done with a unit is refused only for reasons that have a number for IOSTAT.
use Rattle.std.specs.Prelude.{◌≡◌, ℕ, ℤ, pos, Bool, true, false, List, Option, Some, None, Result, Ok, Err}
use Rattle.std.proofs.Common.{refl}
use Rattle.f_tree.specs.run_state.Units.{Units, UnitState, Picked, with_unit, with_record, unless_ended, write_at, write_unit, one_back, back_at, back_unit, rewind_at, rewind_unit, end_at, end_unit, close_at, close_unit, connect_file, pick, open_at, open_unit}
use Rattle.f_tree.specs.run_state.declared.refusals.UnitRefusal.{UnitRefusal}
use Rattle.f_tree.specs.run_state.declared.refusals.UnitRefusal.TheVariants.{NotConnected, NotOffered, Taken, PastEnd}
use Rattle.f_tree.specs.Values.{Gives}
use Rattle.f_tree.specs.Statuses.{number_of}

-- done, or refused with a number
pub data HasNumber {A : Type 0} : Result A UnitRefusal → Type 0 where
  it_is_done : (a : A) → HasNumber (Ok a)
  it_is_refused : (refusal : UnitRefusal) (number : ℤ) → number_of refusal ≡ Gives number → HasNumber (Err refusal)

pub not_connected : {A : Type 0} → HasNumber {A = A} (Err NotConnected)
unfolding number_of
not_connected = it_is_refused NotConnected (pos 6) refl

pub not_offered : {A : Type 0} → HasNumber {A = A} (Err NotOffered)
unfolding number_of
not_offered = it_is_refused NotOffered (pos 7) refl

pub taken : {A : Type 0} → HasNumber {A = A} (Err Taken)
unfolding number_of
taken = it_is_refused Taken (pos 8) refl

pub past_end : {A : Type 0} → HasNumber {A = A} (Err PastEnd)
unfolding number_of
past_end = it_is_refused PastEnd (pos 9) refl

pub ended_has_number : (ended : Bool) (units : Units) → HasNumber (unless_ended ended units)
ended_has_number true units = past_end
ended_has_number false units = it_is_done units

-- WRITE
pub write_at_has_number : (number : ℤ) (bytes : List ℕ) (state : Option UnitState) (units : Units) → HasNumber (write_at number bytes state units)
write_at_has_number number bytes None units = not_connected
write_at_has_number number bytes (Some unit) units = ended_has_number unit.end_mark (with_unit number (Some (with_record bytes unit)) units)

pub write_has_number : (number : ℤ) (bytes : List ℕ) (units : Units) → HasNumber (write_unit number bytes units)
unfolding write_unit
write_has_number number bytes units = write_at_has_number number bytes (units.connected number) units

-- BACKSPACE
pub back_at_has_number : (number : ℤ) (state : Option UnitState) (units : Units) → HasNumber (back_at number state units)
back_at_has_number number None units = not_connected
back_at_has_number number (Some unit) units = it_is_done (with_unit number (Some (one_back unit.end_mark unit)) units)

pub back_has_number : (number : ℤ) (units : Units) → HasNumber (back_unit number units)
unfolding back_unit
back_has_number number units = back_at_has_number number (units.connected number) units

-- REWIND
pub rewind_at_has_number : (number : ℤ) (state : Option UnitState) (units : Units) → HasNumber (rewind_at number state units)
rewind_at_has_number number None units = not_connected
rewind_at_has_number number (Some unit) units = it_is_done _

pub rewind_has_number : (number : ℤ) (units : Units) → HasNumber (rewind_unit number units)
unfolding rewind_unit
rewind_has_number number units = rewind_at_has_number number (units.connected number) units

-- ENDFILE
pub end_at_has_number : (number : ℤ) (state : Option UnitState) (units : Units) → HasNumber (end_at number state units)
end_at_has_number number None units = not_connected
end_at_has_number number (Some unit) units = ended_has_number unit.end_mark _

pub end_has_number : (number : ℤ) (units : Units) → HasNumber (end_unit number units)
unfolding end_unit
end_has_number number units = end_at_has_number number (units.connected number) units

-- CLOSE
pub close_at_has_number : (number : ℤ) (state : Option UnitState) (units : Units) → HasNumber (close_at number state units)
close_at_has_number number None units = not_connected
close_at_has_number number (Some unit) units = it_is_done _

pub close_has_number : (number : ℤ) (units : Units) → HasNumber (close_unit number units)
unfolding close_unit
close_has_number number units = close_at_has_number number (units.connected number) units

-- OPEN
pub connect_has_number : (number : ℤ) (zeros : Bool) (picked : Option Picked) (units : Units) → HasNumber (connect_file number zeros picked units)
connect_has_number number zeros None units = not_offered
connect_has_number number zeros (Some picked) units = it_is_done _

pub open_at_has_number : (number : ℤ) (name : List ℕ) (zeros : Bool) (state : Option UnitState) (units : Units) → HasNumber (open_at number name zeros state units)
open_at_has_number number name zeros None units = connect_has_number number zeros (pick name units.drawer) units
open_at_has_number number name zeros (Some unit) units = taken

pub open_has_number : (number : ℤ) (name : List ℕ) (zeros : Bool) (units : Units) → HasNumber (open_unit number name zeros units)
unfolding open_unit
open_has_number number name zeros units = open_at_has_number number name zeros (units.connected number) units
