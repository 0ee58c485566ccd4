-- How a transfer, or OPEN and its kin, ends: the number for IOSTAT, and where control goes.
-- ANSI X3.9-1978, sections 12.6 (error and end-of-file conditions), 12.7 (the specifiers ERR, END and IOSTAT).
use Rattle.std.specs.Prelude.{ℕ, ℤ, pos, negsuc, Option, Some, None}
use Rattle.run_state.specs.declared.refusals.UnitRefusal.{UnitRefusal}
use Rattle.run_state.specs.declared.refusals.UnitRefusal.TheVariants.{NotConnected, NotOffered, Taken, PastEnd}
use Rattle.f_tree.specs.Values.{Spot, IsInt, NoMeaning, Checked, Gives, Fails}
use Rattle.f_tree.specs.Store.{Store, define}
use Rattle.f_tree.specs.Facts.{Controls}
use Rattle.f_tree.specs.World.{World}
use Rattle.f_tree.specs.Courses.{Course, IsDone, Branches, StopsWith, NotSaid}

-- the number at the end of the records
unfoldable pub end_of_file : ℤ
end_of_file = negsuc 0

-- a record, or a position in it, that is too far
unfoldable pub too_long : ℤ
too_long = pos 5

-- a text that is no format, or a format that is too long
unfoldable pub not_a_format : ℤ
not_a_format = pos 10

unfoldable pub number_of : UnitRefusal → Checked ℤ
number_of NotConnected = Gives (pos 6)
number_of NotOffered = Gives (pos 7)
number_of Taken = Gives (pos 8)
number_of PastEnd = Gives (pos 9)
number_of _ = Fails NoMeaning

-- the store once IOSTAT is defined
unfoldable pub status_defined : Option Spot → ℤ → Store → Checked Store
status_defined None number s = Gives s
status_defined (Some p) number s = define s p (IsInt number)

-- control at an error or at the end of a file: to ERR or END, else to the next statement where IOSTAT is written, else the run ends
unfoldable pub after_error : World → ℤ → Option ℕ → Option Spot → Course
after_error w number (Some label) status = Branches label w
after_error w number None (Some p) = IsDone w
after_error w number None None = StopsWith number w

unfoldable pub label_for : ℤ → Controls → Option ℕ
label_for (pos n) controls = controls.on_error
label_for (negsuc n) controls = controls.on_end

unfoldable pub failed_with : World → ℤ → Controls → Option Spot → Checked Store → Course
failed_with w number controls status (Fails act) = NotSaid act
failed_with w number controls status (Gives s) = after_error (record w { store = s; transfer = None }) number (label_for number controls) status

-- a transfer, or OPEN and its kin, ends with the number of an error
unfoldable pub fails_with : World → ℤ → Controls → Option Spot → Course
fails_with w number controls status = failed_with w number controls status (status_defined status number w.store)

unfoldable pub fails_by : World → Checked ℤ → Controls → Option Spot → Course
fails_by w (Gives number) controls status = fails_with w number controls status
fails_by w (Fails act) controls status = NotSaid act

unfoldable pub ended_with : World → Checked Store → Course
ended_with w (Fails act) = NotSaid act
ended_with w (Gives s) = IsDone (record w { store = s; transfer = None })

-- a transfer, or OPEN and its kin, ends without an error
unfoldable pub ends_well : World → Option Spot → Course
ends_well w status = ended_with w (status_defined status (pos 0) w.store)

unfoldable pub statuses_opened : Unit {0}
unfolding end_of_file too_long not_a_format number_of status_defined after_error label_for failed_with fails_with fails_by ended_with ends_well
statuses_opened = tt
