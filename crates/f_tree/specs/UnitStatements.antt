-- OPEN, CLOSE, BACKSPACE, ENDFILE and REWIND. ANSI X3.9-1978, section 12.10.
use Rattle.std.specs.Prelude.{ℕ, ℤ, Bool, true, false, List, [], ◌∷◌, ◌++◌, Option, Some, None, Result, Ok, Err, if◌then◌else◌, nat_eq, reverse, codes, ◌||◌}
use Rattle.run_state.specs.Units.{Units, Closing, open_unit, close_unit, back_unit, end_unit, rewind_unit}
use Rattle.run_state.specs.declared.refusals.UnitRefusal.{UnitRefusal}
use Rattle.run_state.specs.declared.refusals.UnitRefusal.TheVariants.{NotConnected}
use Rattle.std.specs.Fmt.{signed_decimal}
use Rattle.f_tree.specs.Values.{Spot, Datum, TransferInTransfer, NoMeaning, Checked, Gives, Fails, given_that}
use Rattle.f_tree.specs.Store.{Store}
use Rattle.f_tree.specs.Facts.{Word, FileWord, BlankWord, Controls, AuxiliaryKind, OpenUnit, CloseUnit, BackspaceUnit, EndFileUnit, RewindUnit}
use Rattle.f_tree.specs.World.{Medium, External, Transfer, World}
use Rattle.f_tree.specs.Courses.{Course, NotSaid}
use Rattle.f_tree.specs.Statuses.{number_of, fails_by, ends_well}
use Rattle.f_tree.specs.Records.{text_now}
use Rattle.f_tree.specs.Transfers.{operand_for, medium_of, status_of}

-- a statement that may be refused
unfoldable pub units_changed : World → Controls → Option Spot → Result Units UnitRefusal → Course
units_changed w controls status (Ok units) = ends_well (record w { units = units }) status
units_changed w controls status (Err refusal) = fails_by w (number_of refusal) controls status

-- CLOSE of a unit that is not connected does nothing
unfoldable pub closed : World → Controls → Option Spot → Result Closing UnitRefusal → Course
closed w controls status (Ok closing) = ends_well (record w { units = closing.after }) status
closed w controls status (Err NotConnected) = ends_well w status
closed w controls status (Err refusal) = fails_by w (number_of refusal) controls status

unfoldable pub is_file_word : Word → Bool
is_file_word FileWord = true
is_file_word _ = false

unfoldable pub is_blank_word : Word → Bool
is_blank_word BlankWord = true
is_blank_word _ = false

unfoldable pub without_blanks_in_front : List ℕ → List ℕ
without_blanks_in_front [] = []
without_blanks_in_front (c ∷ cs) = if nat_eq c 32 then without_blanks_in_front cs else c ∷ cs

-- trailing blanks are dropped
unfoldable pub trimmed : List ℕ → List ℕ
trimmed cs = reverse (without_blanks_in_front (reverse cs))

-- the name of a file: FILE, or `fort.` and the number of the unit
unfoldable pub file_name : Store → ℤ → Option Datum → Checked (List ℕ)
file_name s unit None = Gives (codes "fort." ++ signed_decimal unit)
file_name s unit (Some d) = given_that (text_now s d) (λ cs. Gives (trimmed cs))

unfoldable pub begins_with_z : List ℕ → Bool
begins_with_z [] = false
begins_with_z (c ∷ cs) = nat_eq c 90 || nat_eq c 122

-- are blanks in a number zeros: BLANK='ZERO'
unfoldable pub zero_blanks : Store → Option Datum → Checked Bool
zero_blanks s None = Gives false
zero_blanks s (Some d) = given_that (text_now s d) (λ cs. Gives (begins_with_z cs))

unfoldable pub opened_as : World → Controls → Option Spot → ℤ → Checked (List ℕ) → Checked Bool → Course
opened_as w controls status unit (Gives name) (Gives zeros) = units_changed w controls status (open_unit unit name zeros w.units)
opened_as w controls status unit (Fails act) zeros = NotSaid act
opened_as w controls status unit name (Fails act) = NotSaid act

unfoldable pub auxiliary_on : World → AuxiliaryKind → Controls → List Datum → Option Spot → Option Medium → Course
auxiliary_on w OpenUnit controls ds status (Some (External unit)) =
    opened_as w controls status unit (file_name w.store unit (operand_for is_file_word controls.words ds)) (zero_blanks w.store (operand_for is_blank_word controls.words ds))
auxiliary_on w CloseUnit controls ds status (Some (External unit)) = closed w controls status (close_unit unit w.units)
auxiliary_on w BackspaceUnit controls ds status (Some (External unit)) = units_changed w controls status (back_unit unit w.units)
auxiliary_on w EndFileUnit controls ds status (Some (External unit)) = units_changed w controls status (end_unit unit w.units)
auxiliary_on w RewindUnit controls ds status (Some (External unit)) = units_changed w controls status (rewind_unit unit w.units)
auxiliary_on w which controls ds status medium = NotSaid NoMeaning

unfoldable pub auxiliary : World → AuxiliaryKind → Controls → List Datum → Option Transfer → Course
auxiliary w which controls ds (Some t) = NotSaid TransferInTransfer
auxiliary w which controls ds None = auxiliary_on w which controls ds (status_of controls.words ds) (medium_of controls.words ds)

unfoldable pub unit_statements_opened : Unit {0}
unfolding units_changed closed is_file_word is_blank_word without_blanks_in_front trimmed file_name begins_with_z zero_blanks opened_as auxiliary_on auxiliary open_unit close_unit back_unit end_unit rewind_unit
unit_statements_opened = tt
