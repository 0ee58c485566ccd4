-- READ, WRITE, PRINT, and OPEN and its kin in a well-formed unit: the first item follows, or the statement ends.
use Rattle.std.specs.Prelude.{◌≡◌, ℕ, suc, ◌<◌, ℤ, pos, Bool, List, length, Option, Some, None, Result, Ok, Err}
use Rattle.std.proofs.Common.{refl, sym, subst}
use Rattle.f_tree.specs.edit_meaning.Formats.{Format}
use Rattle.f_tree.specs.run_state.Units.{Units, Closing, open_unit, close_unit, back_unit, end_unit, rewind_unit}
use Rattle.f_tree.specs.run_state.declared.refusals.UnitRefusal.{UnitRefusal}
use Rattle.f_tree.specs.run_state.declared.refusals.UnitRefusal.TheVariants.{NotConnected, NotOffered, Taken, PastEnd, Failed}
use Rattle.f_tree.specs.Values.{Spot, Datum, FormatEndsEarly, TransferInTransfer, NoValue, Checked, Gives, Fails}
use Rattle.f_tree.specs.Terms.{Wanted}
use Rattle.f_tree.specs.Facts.{Direction, Input, Output, Layout, Controls, AuxiliaryKind, OpenUnit, CloseUnit, BackspaceUnit, EndFileUnit, RewindUnit, Work, Done, ToBegin, ToAuxiliary, LabelledFormat, ProgramUnit, Facts}
use Rattle.f_tree.specs.World.{Medium, Transfer, World, View}
use Rattle.f_tree.specs.Courses.{Course, NotSaid}
use Rattle.f_tree.specs.Statuses.{not_a_format, number_of, fails_with, fails_by}
use Rattle.f_tree.specs.Records.{supply}
use Rattle.f_tree.specs.FormatChoice.{Found, IsFormat, NoFormat, NotDefined, TooShort}
use Rattle.f_tree.specs.Transfers.{operand_for, is_format_word, medium_of, status_of, format_for, going_on, taken_then, is_usable, new_transfer, first_read, started_with, started_by, begun_on, begins}
use Rattle.f_tree.specs.UnitStatements.{is_file_word, is_blank_word, file_name, zero_blanks, units_changed, closed, opened_as, auxiliary_on, auxiliary}
use Rattle.f_tree.specs.Step.{coursed, deed}
use Rattle.f_tree.specs.WellTyped.{Sort, AreOf, is_named, Answers}
use Rattle.f_tree.specs.WellFormed as formed
use Rattle.f_tree.specs.WellFormed.{MayStand, WorkIsFormed, WordsTake}
use Rattle.f_tree.specs.Holding as holding
use Rattle.f_tree.specs.Holding.{IsMedium, IsStatus, IsOutside, IsTransfer, of_others, Happens, IsReady, DeedHappens}
use Rattle.fortran_totality.proofs.MeantLemmas.{Any}
use Rattle.fortran_totality.proofs.InputLemmas.{first_read_well}
use Rattle.fortran_totality.proofs.TransferLemmas as course
use Rattle.fortran_totality.proofs.TransferLemmas.{IsAmid, IsLarge, Fares, fares_if, coursed_happens, going_on_fares, fails_fares, ends_well_fares}
use Rattle.fortran_totality.proofs.ItemLemmas.{taken_then_fares}
use Rattle.fortran_totality.proofs.UnitLemmas as numbered
use Rattle.fortran_totality.proofs.UnitLemmas.{HasNumber, open_has_number, close_has_number, back_has_number, end_has_number, rewind_has_number}
use Rattle.fortran_totality.proofs.ControlWordLemmas as words
use Rattle.fortran_totality.proofs.ControlWordLemmas.{HasMedium, medium_there, HasUnit, unit_there, status_there, operand_there, file_takes_texts, blank_takes_texts, file_name_there, zero_blanks_there, format_for_there}

-- what stands before a statement outside a transfer, with no transfer in progress
pub amid_without : (c : Facts) (least : ℕ) (want : Wanted) (v : View) (w : World) → IsReady c least want None v w → suc v.at < length c.program.lines →
    w.transfer ≡ None → IsAmid c least want None v w
unfolding of_others
amid_without c least want v w ready room lonely = record { formed = ready.formed; holding = ready.holding; room = room; lonely = lonely }

-- THE START. A transfer before its first item
pub new_transfer_is : (u : ProgramUnit) (count : ℕ) (way : Direction) (layout : Layout) (controls : Controls) (status : Option Spot) (w : World) (medium : Medium)
    (format : Format) → IsMedium count medium → IsStatus count status → MayStand u controls.on_error → MayStand u controls.on_end →
    IsTransfer u count way (new_transfer way layout controls status w medium format)
unfolding new_transfer IsOutside
new_transfer_is u count way layout controls status w medium format there status_is error end =
    record { direction_is = refl; medium = there; status = status_is; on_error = error; on_end = end; outside = tt }

pub started_with_fares : (u : ProgramUnit) (w : World) (way : Direction) (t : Transfer) → IsTransfer u (length w.store) way t →
    Fares u (length w.store) way (started_with w t)
unfolding started_with
started_with_fares u w Output t is =
    subst
    (λ way. Fares u (length w.store) Output
    (elim way [ Output ↦ going_on w t | Input ↦ taken_then w t (first_read w.store t (supply w t) (supply w t).lines) going_on ]))
    (sym is.direction_is) (going_on_fares u (length w.store) Output w t refl is)
started_with_fares u w Input t is =
    subst
    (λ way. Fares u (length w.store) Input
    (elim way [ Output ↦ going_on w t | Input ↦ taken_then w t (first_read w.store t (supply w t) (supply w t).lines) going_on ]))
    (sym is.direction_is)
    (taken_then_fares u (length w.store) w t (first_read w.store t (supply w t) (supply w t).lines) going_on is (first_read_well u w t is)
    (going_on_fares u (length w.store) Input))

pub started_by_fares : (u : ProgramUnit) (w : World) (way : Direction) (layout : Layout) (controls : Controls) (status : Option Spot) (medium : Medium)
    (found : Found) → IsMedium (length w.store) medium → IsStatus (length w.store) status → MayStand u controls.on_error → MayStand u controls.on_end →
    Fares u (length w.store) way (started_by w way layout controls status medium found)
unfolding started_by is_named
started_by_fares u w way layout controls status medium (IsFormat format) there is error end =
    started_with_fares u w way (new_transfer way layout controls status w medium format)
    (new_transfer_is u (length w.store) way layout controls status w medium format there is error end)
started_by_fares u w way layout controls status medium NoFormat there is error end =
    fails_fares u (length w.store) way w not_a_format controls status refl is error end
started_by_fares u w way layout controls status medium NotDefined there is error end = course.it_is_not_said NoValue refl
started_by_fares u w way layout controls status medium TooShort there is error end = course.it_is_not_said FormatEndsEarly refl

pub begun_on_fares : (u : ProgramUnit) (w : World) (way : Direction) (layout : Layout) (controls : Controls) (status : Option Spot) (o : Option Medium)
    (r : Checked Found) → HasMedium (length w.store) o → IsStatus (length w.store) status → MayStand u controls.on_error → MayStand u controls.on_end →
    Answers Any r → Fares u (length w.store) way (begun_on w way layout controls status o r)
unfolding begun_on Answers
begun_on_fares u w way layout controls status (Some medium) (Gives found) (words.has_medium _ there) is error end any =
    fares_if u (length w.store) way (is_usable medium w.units) (started_by w way layout controls status medium found) (fails_with w (pos 6) controls status)
    (started_by_fares u w way layout controls status medium found there is error end)
    (fails_fares u (length w.store) way w (pos 6) controls status refl is error end)
begun_on_fares u w way layout controls status (Some medium) (Fails act) there is error end named = course.it_is_not_said act named
begun_on_fares u w way layout controls status None r there is error end any = elim there [ ]

-- a statement outside every transfer; in one that is in progress it has no place
pub outside_happens : (c : Facts) (least : ℕ) (want : Wanted) (v : View) (w : World) (way : Direction) (work : Work) (transfer : Option Transfer)
    (asked : Option Transfer → Course) → IsReady c least want None v w → suc v.at < length c.program.lines → w.transfer ≡ transfer →
    WorkIsFormed c (length w.store) way work → ((t : Transfer) → asked (Some t) ≡ NotSaid TransferInTransfer) →
    Fares c.program (length w.store) way (asked None) → Happens c least want None v w (coursed c v work (asked transfer))
unfolding coursed is_named
outside_happens c least want v w way work None asked ready room lonely are refused fares =
    coursed_happens c least want None v w way work (asked None) (amid_without c least want v w ready room lonely) are fares
outside_happens c least want v w way work (Some t) asked ready room one are refused fares =
    subst (λ x. Happens c least want None v w (coursed c v work x)) (sym (refused t)) (holding.it_breaks TransferInTransfer refl)

pub begins_fares : (u : ProgramUnit) (w : World) (way : Direction) (layout : Layout) (controls : Controls) (ds : List Datum) →
    HasMedium (length w.store) (medium_of controls.words ds) → IsStatus (length w.store) (status_of controls.words ds) → MayStand u controls.on_error →
    MayStand u controls.on_end → Answers Any (format_for u.formats w.store layout (operand_for is_format_word controls.words ds)) →
    Fares u (length w.store) way (begins u.formats w way layout controls ds None)
unfolding begins
begins_fares u w way layout controls ds there is error end any =
    begun_on_fares u w way layout controls (status_of controls.words ds) (medium_of controls.words ds)
    (format_for u.formats w.store layout (operand_for is_format_word controls.words ds)) there is error end any

begins_inside : (formats : List LabelledFormat) (w : World) (way : Direction) (layout : Layout) (controls : Controls) (ds : List Datum) (t : Transfer) →
    begins formats w way layout controls ds (Some t) ≡ NotSaid TransferInTransfer
unfolding begins
begins_inside formats w way layout controls ds t = refl

pub begin_happens : (c : Facts) (least : ℕ) (want : Wanted) (v : View) (w : World) → IsReady c least want None v w → (way : Direction)
    (layout : Layout) (controls : Controls) (work : Work) → DeedHappens c least want None v w (ToBegin way layout controls work)
unfolding deed
begin_happens c least want v w ready way layout controls work sorts ds room (formed.begins _ _ _ _ _ sort takes unit has error end are) of =
    outside_happens c least want v w way work w.transfer (begins c.program.formats w way layout controls ds) ready room refl are
    (begins_inside c.program.formats w way layout controls ds)
    (begins_fares c.program w way layout controls ds (medium_there (length w.store) controls.words sorts ds sort takes of unit)
    (status_there (length w.store) controls.words sorts ds takes of) error end
    (format_for_there c.program w.store layout controls.words sorts ds has takes of))

-- OPEN AND ITS KIN. They end well, or with the number of what was refused
pub fails_by_fares : (u : ProgramUnit) (n : ℕ) (way : Direction) (w : World) (r : Checked ℤ) (number : ℤ) (controls : Controls) (status : Option Spot) →
    IsLarge n w → r ≡ Gives number → IsStatus n status → MayStand u controls.on_error → MayStand u controls.on_end → Fares u n way (fails_by w r controls status)
unfolding fails_by
fails_by_fares u n way w r number controls status same gives is error end =
    subst (λ x. Fares u n way (fails_by w x controls status)) (sym gives) (fails_fares u n way w number controls status same is error end)

pub units_changed_fares : (u : ProgramUnit) (n : ℕ) (way : Direction) (w : World) (controls : Controls) (status : Option Spot) (r : Result Units UnitRefusal) →
    IsLarge n w → HasNumber r → IsStatus n status → MayStand u controls.on_error → MayStand u controls.on_end → Fares u n way (units_changed w controls status r)
unfolding units_changed
units_changed_fares u n way w controls status (Ok units) same (numbered.it_is_done _) is error end =
    ends_well_fares u n way (record w { units = units }) status same is
units_changed_fares u n way w controls status (Err refusal) same (numbered.it_is_refused _ number gives) is error end =
    fails_by_fares u n way w (number_of refusal) number controls status same gives is error end

pub closed_fares : (u : ProgramUnit) (n : ℕ) (way : Direction) (w : World) (controls : Controls) (status : Option Spot) (r : Result Closing UnitRefusal) →
    IsLarge n w → HasNumber r → IsStatus n status → MayStand u controls.on_error → MayStand u controls.on_end → Fares u n way (closed w controls status r)
unfolding closed
closed_fares u n way w controls status (Ok closing) same (numbered.it_is_done _) is error end =
    ends_well_fares u n way (record w { units = closing.after }) status same is
closed_fares u n way w controls status (Err NotConnected) same (numbered.it_is_refused _ number gives) is error end = ends_well_fares u n way w status same is
closed_fares u n way w controls status (Err NotOffered) same (numbered.it_is_refused _ number gives) is error end =
    fails_by_fares u n way w (number_of NotOffered) number controls status same gives is error end
closed_fares u n way w controls status (Err Taken) same (numbered.it_is_refused _ number gives) is error end =
    fails_by_fares u n way w (number_of Taken) number controls status same gives is error end
closed_fares u n way w controls status (Err PastEnd) same (numbered.it_is_refused _ number gives) is error end =
    fails_by_fares u n way w (number_of PastEnd) number controls status same gives is error end
closed_fares u n way w controls status (Err Failed) same (numbered.it_is_refused _ number gives) is error end =
    fails_by_fares u n way w (number_of Failed) number controls status same gives is error end

pub opened_as_fares : (u : ProgramUnit) (n : ℕ) (way : Direction) (w : World) (controls : Controls) (status : Option Spot) (unit : ℤ) (name : Checked (List ℕ))
    (zeros : Checked Bool) → IsLarge n w → Answers Any name → Answers Any zeros → IsStatus n status → MayStand u controls.on_error →
    MayStand u controls.on_end → Fares u n way (opened_as w controls status unit name zeros)
unfolding opened_as Answers
opened_as_fares u n way w controls status unit (Gives name) (Gives zeros) same any either is error end =
    units_changed_fares u n way w controls status (open_unit unit name zeros w.units) same (open_has_number unit name zeros w.units) is error end
opened_as_fares u n way w controls status unit (Fails act) zeros same named any is error end = course.it_is_not_said act named
opened_as_fares u n way w controls status unit (Gives name) (Fails act) same any named is error end = course.it_is_not_said act named

pub auxiliary_on_fares : (u : ProgramUnit) (way : Direction) (w : World) (which : AuxiliaryKind) (controls : Controls) (sorts : List Sort) (ds : List Datum)
    (status : Option Spot) (o : Option Medium) → WordsTake controls.words sorts → AreOf (length w.store) sorts ds → HasUnit o →
    IsStatus (length w.store) status → MayStand u controls.on_error → MayStand u controls.on_end →
    Fares u (length w.store) way (auxiliary_on w which controls ds status o)
unfolding auxiliary_on
auxiliary_on_fares u way w OpenUnit controls sorts ds status o takes of (words.has_unit unit) is error end =
    opened_as_fares u (length w.store) way w controls status unit (file_name w.store unit (operand_for is_file_word controls.words ds))
    (zero_blanks w.store (operand_for is_blank_word controls.words ds)) refl
    (file_name_there w.store unit (operand_for is_file_word controls.words ds)
    (operand_there (length w.store) is_file_word controls.words sorts ds file_takes_texts takes of))
    (zero_blanks_there w.store (operand_for is_blank_word controls.words ds)
    (operand_there (length w.store) is_blank_word controls.words sorts ds blank_takes_texts takes of)) is error end
auxiliary_on_fares u way w CloseUnit controls sorts ds status o takes of (words.has_unit unit) is error end =
    closed_fares u (length w.store) way w controls status (close_unit unit w.units) refl (close_has_number unit w.units) is error end
auxiliary_on_fares u way w BackspaceUnit controls sorts ds status o takes of (words.has_unit unit) is error end =
    units_changed_fares u (length w.store) way w controls status (back_unit unit w.units) refl (back_has_number unit w.units) is error end
auxiliary_on_fares u way w EndFileUnit controls sorts ds status o takes of (words.has_unit unit) is error end =
    units_changed_fares u (length w.store) way w controls status (end_unit unit w.units) refl (end_has_number unit w.units) is error end
auxiliary_on_fares u way w RewindUnit controls sorts ds status o takes of (words.has_unit unit) is error end =
    units_changed_fares u (length w.store) way w controls status (rewind_unit unit w.units) refl (rewind_has_number unit w.units) is error end

pub auxiliary_fares : (u : ProgramUnit) (way : Direction) (w : World) (which : AuxiliaryKind) (controls : Controls) (sorts : List Sort) (ds : List Datum) →
    WordsTake controls.words sorts → AreOf (length w.store) sorts ds → HasUnit (medium_of controls.words ds) → MayStand u controls.on_error →
    MayStand u controls.on_end → Fares u (length w.store) way (auxiliary w which controls ds None)
unfolding auxiliary
auxiliary_fares u way w which controls sorts ds takes of has error end =
    auxiliary_on_fares u way w which controls sorts ds (status_of controls.words ds) (medium_of controls.words ds) takes of has
    (status_there (length w.store) controls.words sorts ds takes of) error end

auxiliary_inside : (w : World) (which : AuxiliaryKind) (controls : Controls) (ds : List Datum) (t : Transfer) →
    auxiliary w which controls ds (Some t) ≡ NotSaid TransferInTransfer
unfolding auxiliary
auxiliary_inside w which controls ds t = refl

pub auxiliary_happens : (c : Facts) (least : ℕ) (want : Wanted) (v : View) (w : World) → IsReady c least want None v w → (which : AuxiliaryKind)
    (controls : Controls) → DeedHappens c least want None v w (ToAuxiliary which controls)
unfolding deed
auxiliary_happens c least want v w ready which controls sorts ds room (formed.uses_unit _ _ _ takes unit error end) of =
    outside_happens c least want v w Output Done w.transfer (auxiliary w which controls ds) ready room refl formed.done (auxiliary_inside w which controls ds)
    (auxiliary_fares c.program Output w which controls sorts ds takes of (unit_there (length w.store) controls.words sorts ds takes of unit) error end)
