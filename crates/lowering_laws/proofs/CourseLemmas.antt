-- What the acts of a transfer come to: where it goes on, it is one of the statement's own; where it is done, none is in progress, and a label
-- of ERR or END may be branched to.
use Rattle.std.specs.Prelude.{◌≡◌, ℕ, ◌++◌, ℤ, pos, negsuc, Bool, true, false, List, [], ◌∷◌, length, drop, Option, Some, None, Result, Ok, Err, if◌then◌else◌}
use Rattle.std.proofs.Common.{refl, sym, subst}
use Rattle.fortran_laws.specs.edit_meaning.Halts.{Halt, Number, OtherType}
use Rattle.fortran_laws.specs.edit_meaning.Halts as halt
use Rattle.fortran_laws.specs.edit_meaning.Listed.{ListedValue}
use Rattle.fortran_laws.specs.edit_meaning.ListItems as items
use Rattle.fortran_laws.specs.edit_meaning.TakenRecords as taken
use Rattle.fortran_laws.specs.run_state.Units.{Units, Closing, open_unit, close_unit, back_unit, end_unit, rewind_unit}
use Rattle.fortran_laws.specs.run_state.declared.refusals.UnitRefusal.{UnitRefusal}
use Rattle.fortran_laws.specs.run_state.declared.refusals.UnitRefusal.TheVariants as refusal
use Rattle.fortran_laws.specs.f_tree.Values as value
use Rattle.fortran_laws.specs.f_tree.Values.{Bytes, Spot, Datum, IsSpot, Checked, Gives, Fails, given_that}
use Rattle.fortran_laws.specs.f_tree.Store.{Store, fetch, elements}
use Rattle.fortran_laws.specs.f_tree.Facts.{Direction, Input, Output, Layout, Listed, Labelled, Computed, Unformatted, Controls, AuxiliaryKind, OpenUnit, CloseUnit, BackspaceUnit, EndFileUnit, RewindUnit, LabelledFormat, ProgramUnit}
use Rattle.fortran_laws.specs.f_tree.World.{Medium, External, Internal, Transfer, World}
use Rattle.fortran_laws.specs.f_tree.Courses.{Course, Further, IsDone, Branches, StopsWith, NotSaid}
use Rattle.fortran_laws.specs.f_tree.Statuses.{end_of_file, number_of, status_defined, after_error, label_for, failed_with, fails_with, fails_by, ended_with, ends_well}
use Rattle.fortran_laws.specs.f_tree.Records.{Writing, Wrote, StoppedBy, Broken, Beyond, EndOfFile, LongRecord, Unfetched, Supply, supply, world_after}
use Rattle.fortran_laws.specs.f_tree.FormatChoice.{IsFormat, NoFormat, NotDefined, TooShort}
use Rattle.fortran_laws.specs.f_tree.FormatChoice as format
use Rattle.fortran_laws.specs.f_tree.Transfers.{going_on, listed_value, values_of, Made, made_by, halted_by, unless_halted, after_writing, records_put, put_then, values_put, made_before, element_put, value_met, each_put, formatted_put, item_written, output_ended, Taking, Serves, Numbered, Unsaid, ran_out, taking_with, value_stored, front_stored, read_further, value_given, listed_stop, item_listed, listed_taken, values_stored, input_by, input_taken, format_taken, item_taken, counted, taken_then, each_filled, place_filled, closing_taken, input_ended, item_done, finished, is_usable, new_transfer, first_read, started_with, started_by, begun_on, begins, operand_for, is_format_word, medium_of, status_of, format_for}
use Rattle.fortran_laws.specs.f_tree.UnitStatements.{units_changed, closed, opened_as, is_file_word, is_blank_word, file_name, zero_blanks, auxiliary_on, auxiliary}
use Rattle.lowering_laws.specs.Layer.{Reaches, LabelReaches, ControlsReach, IsOwn}

-- what a course comes to, and what is so where the transfer goes on
abbrev pub CourseIs : ProgramUnit → ℕ → (World → Type 0) → Course → Type 0
CourseIs p i More (Further w) = More w
CourseIs p i More (IsDone w) = w.transfer ≡ None
CourseIs p i More (Branches label w) = (w.transfer ≡ None) × Reaches p i label
CourseIs p i More (StopsWith number w) = Unit {0}
CourseIs p i More (NotSaid act) = Unit {0}

-- the labels of a transfer do not change with what it counts
counted_by : (count : ℕ) (t : Transfer) (m : Medium) → (counted count (record t { medium = m })).controls ≡ t.controls
unfolding counted
counted_by count t (External unit) = refl
counted_by count t (Internal q) = refl

module _ (p : ProgramUnit) (i : ℕ) (More : World → Type 0) where
  abbrev Fine : Course → Type 0
  Fine course = CourseIs p i More course

  abbrev Led : Transfer → Type 0
  Led t = ControlsReach p i t.controls

  -- ## Ends

  error_fine : (w : World) (number : ℤ) (x : Option ℕ) (status : Option Spot) → LabelReaches p i x → w.transfer ≡ None → Fine (after_error w number x status)
  unfolding after_error
  error_fine w number (Some label) status reaches none = (none, reaches)
  error_fine w number None (Some q) reaches none = none
  error_fine w number None None reaches none = tt

  label_fine : (number : ℤ) (controls : Controls) → ControlsReach p i controls → LabelReaches p i (label_for number controls)
  unfolding label_for
  label_fine (pos n) controls reach = reach.0
  label_fine (negsuc n) controls reach = reach.1

  failed_fine : (w : World) (number : ℤ) (controls : Controls) (status : Option Spot) (x : Checked Store) → ControlsReach p i controls → Fine (failed_with w number controls status x)
  unfolding failed_with
  failed_fine w number controls status (Fails act) reach = tt
  failed_fine w number controls status (Gives s) reach = error_fine (record w { store = s; transfer = None }) number (label_for number controls) status (label_fine number controls reach) refl

  fails_fine : (w : World) (number : ℤ) (controls : Controls) (status : Option Spot) → ControlsReach p i controls → Fine (fails_with w number controls status)
  unfolding fails_with
  fails_fine w number controls status reach = failed_fine w number controls status (status_defined status number w.store) reach

  numbered_fine : (w : World) (x : Checked ℤ) (controls : Controls) (status : Option Spot) → ControlsReach p i controls → Fine (fails_by w x controls status)
  unfolding fails_by
  numbered_fine w (Gives number) controls status reach = fails_fine w number controls status reach
  numbered_fine w (Fails act) controls status reach = tt

  ended_fine : (w : World) (x : Checked Store) → Fine (ended_with w x)
  unfolding ended_with
  ended_fine w (Fails act) = tt
  ended_fine w (Gives s) = refl

  ends_fine : (w : World) (status : Option Spot) → Fine (ends_well w status)
  unfolding ends_well
  ends_fine w status = ended_fine w (status_defined status (pos 0) w.store)

  -- ## Output

  halted_fine : (w : World) (t : Transfer) (x : Halt) → Led t → Fine (halted_by w t x)
  unfolding halted_by
  halted_fine w t (Number number) reach = fails_fine w (pos number) t.controls t.status reach
  halted_fine w t halt.EndOfRecords reach = fails_fine w end_of_file t.controls t.status reach
  halted_fine w t OtherType reach = tt

  unless_fine : (w : World) (t : Transfer) (x : Option Halt) (course : Course) → Led t → Fine course → Fine (unless_halted w t x course)
  unfolding unless_halted
  unless_fine w t None course reach fine = fine
  unless_fine w t (Some x) course reach fine = halted_fine w t x reach

  after_fine : (t : Transfer) (halted : Option Halt) (x : Writing) (next : World → Course) → Led t → ((w : World) → Fine (next w)) → Fine (after_writing t halted x next)
  unfolding after_writing
  after_fine t halted (Wrote w) next reach fine = unless_fine w t halted (next w) reach (fine w)
  after_fine t halted (StoppedBy number w) next reach fine = fails_fine w number t.controls t.status reach
  after_fine t halted (Broken act) next reach fine = tt

  -- what follows a transfer that goes on
  abbrev FineNext : (World → Transfer → Course) → Type 0
  FineNext next = (w : World) (t : Transfer) → Led t → Fine (next w t)

  put_fine : (w : World) (t : Transfer) (m : Made) (next : World → Transfer → Course) → Led t → FineNext next → Fine (put_then w t m next)
  unfolding put_then
  put_fine w t m next reach fine =
      after_fine t m.halted (records_put w t m) (λ after. next after (record t { written = length m.complete })) reach (λ after. fine after (record t { written = length m.complete }) reach)

  element_fine : (w : World) (t : Transfer) (x : Checked ListedValue) (next : World → Transfer → Course) → Led t → FineNext next → Fine (element_put w t x next)
  unfolding element_put
  element_fine w t (Fails act) next reach fine = tt
  element_fine w t (Gives v) next reach fine = put_fine w (record t { values = t.values ++ v ∷ [] }) (made_by t.layout (record t { values = t.values ++ v ∷ [] }) false) next reach fine

  met_fine : (w : World) (t : Transfer) (v : Store → Checked ListedValue) (next : World → Transfer → Course) → Led t → FineNext next → Fine (value_met w t v next)
  unfolding value_met
  met_fine w t v next reach fine = put_fine w t (made_before t) (λ ahead led. element_put ahead led (v ahead.store) next) reach (λ ahead led r. element_fine ahead led (v ahead.store) next r fine)

  -- ## Input

  abbrev TakingIs : Taking → Type 0
  TakingIs (Serves t count s) = Led t
  TakingIs (Numbered number count s) = Unit {0}
  TakingIs (Unsaid act) = Unit {0}

  ran_fine : (lines : List Bytes) (why : Beyond) (s : Store) → TakingIs (ran_out (record { lines = lines; beyond = why }) s)
  unfolding ran_out
  ran_fine lines EndOfFile s = tt
  ran_fine lines LongRecord s = tt
  ran_fine lines (Unfetched act) s = tt

  with_fine : (x : Checked Store) (go : Store → Taking) → ((s : Store) → TakingIs (go s)) → TakingIs (taking_with x go)
  unfolding taking_with
  with_fine (Gives s) go fine = fine s
  with_fine (Fails act) go fine = tt

  stop_fine : (t : Transfer) (all : Supply) (s : Store) (q : Spot) (count : ℕ) (x : items.Outcome) → Led t → TakingIs (listed_stop t all s q count x)
  unfolding listed_stop read_further value_given
  stop_fine t all s q count (items.Failed number text) reach = with_fine (front_stored s q text) (Numbered (pos number) count) (λ s'. tt)
  stop_fine t all s q count (items.EndOfRecords text) reach = with_fine (front_stored s q text) (ran_out all) (λ s'. ran_fine all.lines all.beyond s')
  stop_fine t all s q count items.Filled reach = reach
  stop_fine t all s q count items.Slashed reach = reach

  item_fine : (t : Transfer) (all : Supply) (q : Spot) (s : Store) (x : items.Item) → Led t → TakingIs (item_listed t all q s x)
  unfolding item_listed read_further value_given
  item_fine t all q s (items.Takes v place later) reach = with_fine (value_stored s q v) _ (λ s'. reach)
  item_fine t all q s (items.Stops outcome) reach = stop_fine t all s q _ outcome reach

  listed_fine : (slashed : Bool) (t : Transfer) (all : Supply) (q : Spot) (s : Store) → Led t → TakingIs (listed_taken slashed t all q s)
  unfolding listed_taken value_given
  listed_fine true t all q s reach = reach
  listed_fine false t all q s reach = item_fine t all q s _ reach

  by_fine : (t : Transfer) (all : Supply) (count : ℕ) (x : Option Halt) (s : Store) → Led t → TakingIs (input_by t all count x s)
  unfolding input_by read_further
  by_fine t all count None s reach = reach
  by_fine t all count (Some (Number number)) s reach = tt
  by_fine t all count (Some halt.EndOfRecords) s reach = ran_fine all.lines all.beyond s
  by_fine t all count (Some OtherType) s reach = tt

  input_fine : (t : Transfer) (all : Supply) (qs : List Spot) (s : Store) (input : taken.Input) → Led t → TakingIs (input_taken t all qs s input)
  unfolding input_taken
  input_fine t all qs s input reach = with_fine (values_stored s qs (drop (length t.wants) input.values)) _ (λ s'. by_fine _ all _ input.halted s' reach)

  taken_fine : (layout : Layout) (t : Transfer) (all : Supply) (q : Spot) (s : Store) → Led t → TakingIs (item_taken layout t all q s)
  unfolding item_taken format_taken
  taken_fine Listed t all q s reach = listed_fine t.slashed t all q s reach
  taken_fine (Labelled label) t all q s reach = input_fine t all (q ∷ []) s _ reach
  taken_fine Computed t all q s reach = input_fine t all (q ∷ []) s _ reach
  taken_fine Unformatted t all q s reach = input_fine t all (q ∷ []) s _ reach

  closing_fine : (layout : Layout) (w : World) (t : Transfer) (all : Supply) → Led t → TakingIs (closing_taken layout w t all)
  unfolding closing_taken
  closing_fine Listed w t all reach = reach
  closing_fine (Labelled label) w t all reach = input_fine t all [] w.store _ reach
  closing_fine Computed w t all reach = input_fine t all [] w.store _ reach
  closing_fine Unformatted w t all reach = input_fine t all [] w.store _ reach

  then_fine : (w : World) (t : Transfer) (x : Taking) (next : World → Transfer → Course) → Led t → TakingIs x → FineNext next → Fine (taken_then w t x next)
  unfolding taken_then
  then_fine w t (Serves after count s) next reach is fine =
      fine (record (world_after count w t) { store = s }) (counted count after) (subst (ControlsReach p i) (sym (counted_by count after after.medium)) is)
  then_fine w t (Numbered number count s) next reach is fine = fails_fine (record (world_after count w t) { store = s }) number t.controls t.status reach
  then_fine w t (Unsaid act) next reach is fine = tt

  -- ## The end

  end_by : (w : World) (t : Transfer) (way : Direction) → Led t → Fine (finished w (Some (record t { direction = way })))
  unfolding finished output_ended input_ended
  end_by w t Output reach = after_fine (record t { direction = Output }) _ _ (λ after. ends_well after t.status) reach (λ after. ends_fine after t.status)
  end_by w t Input reach =
      then_fine w (record t { direction = Input }) _ (λ after longer. ends_well after t.status) reach (closing_fine t.layout w (record t { direction = Input }) (supply w (record t { direction = Input })) reach) (λ after longer r. ends_fine after t.status)

  pub finished_fine : (w : World) (x : Option Transfer) → IsOwn p i x → Fine (finished w x)
  unfolding finished
  finished_fine w None own = tt
  finished_fine w (Some t) own = end_by w t t.direction own

  -- ## OPEN and its kin

  changed_fine : (w : World) (controls : Controls) (status : Option Spot) (x : Result Units UnitRefusal) → ControlsReach p i controls → Fine (units_changed w controls status x)
  unfolding units_changed
  changed_fine w controls status (Ok units) reach = ends_fine (record w { units = units }) status
  changed_fine w controls status (Err why) reach = numbered_fine w (number_of why) controls status reach

  closed_fine : (w : World) (controls : Controls) (status : Option Spot) (x : Result Closing UnitRefusal) → ControlsReach p i controls → Fine (closed w controls status x)
  unfolding closed
  closed_fine w controls status (Ok closing) reach = ends_fine (record w { units = closing.after }) status
  closed_fine w controls status (Err refusal.NotConnected) reach = ends_fine w status
  closed_fine w controls status (Err refusal.NotOffered) reach = numbered_fine w (number_of refusal.NotOffered) controls status reach
  closed_fine w controls status (Err refusal.Taken) reach = numbered_fine w (number_of refusal.Taken) controls status reach
  closed_fine w controls status (Err refusal.PastEnd) reach = numbered_fine w (number_of refusal.PastEnd) controls status reach
  closed_fine w controls status (Err refusal.Failed) reach = numbered_fine w (number_of refusal.Failed) controls status reach

  opened_fine : (w : World) (controls : Controls) (status : Option Spot) (unit : ℤ) (x : Checked (List ℕ)) (y : Checked Bool) → ControlsReach p i controls → Fine (opened_as w controls status unit x y)
  unfolding opened_as
  opened_fine w controls status unit (Gives name) (Gives zeros) reach = changed_fine w controls status (open_unit unit name zeros w.units) reach
  opened_fine w controls status unit (Fails act) y reach = tt
  opened_fine w controls status unit (Gives name) (Fails act) reach = tt

  on_fine : (w : World) (which : AuxiliaryKind) (controls : Controls) (ds : List Datum) (status : Option Spot) (x : Option Medium) → ControlsReach p i controls → Fine (auxiliary_on w which controls ds status x)
  unfolding auxiliary_on
  on_fine w OpenUnit controls ds status (Some (External unit)) reach =
      opened_fine w controls status unit (file_name w.store unit (operand_for is_file_word controls.words ds)) (zero_blanks w.store (operand_for is_blank_word controls.words ds)) reach
  on_fine w CloseUnit controls ds status (Some (External unit)) reach = closed_fine w controls status (close_unit unit w.units) reach
  on_fine w BackspaceUnit controls ds status (Some (External unit)) reach = changed_fine w controls status (back_unit unit w.units) reach
  on_fine w EndFileUnit controls ds status (Some (External unit)) reach = changed_fine w controls status (end_unit unit w.units) reach
  on_fine w RewindUnit controls ds status (Some (External unit)) reach = changed_fine w controls status (rewind_unit unit w.units) reach
  on_fine w OpenUnit controls ds status (Some (Internal q)) reach = tt
  on_fine w CloseUnit controls ds status (Some (Internal q)) reach = tt
  on_fine w BackspaceUnit controls ds status (Some (Internal q)) reach = tt
  on_fine w EndFileUnit controls ds status (Some (Internal q)) reach = tt
  on_fine w RewindUnit controls ds status (Some (Internal q)) reach = tt
  on_fine w OpenUnit controls ds status None reach = tt
  on_fine w CloseUnit controls ds status None reach = tt
  on_fine w BackspaceUnit controls ds status None reach = tt
  on_fine w EndFileUnit controls ds status None reach = tt
  on_fine w RewindUnit controls ds status None reach = tt

  pub auxiliary_fine : (w : World) (which : AuxiliaryKind) (controls : Controls) (ds : List Datum) → ControlsReach p i controls → Fine (auxiliary w which controls ds None)
  unfolding auxiliary
  auxiliary_fine w which controls ds reach = on_fine w which controls ds (status_of controls.words ds) (medium_of controls.words ds) reach

  -- ## Items, and the start

  module _ (own : (w : World) (t : Transfer) → Led t → More (record w { transfer = Some t })) where
    going_fine : (w : World) (t : Transfer) → Led t → Fine (going_on w t)
    unfolding going_on
    going_fine w t reach = own w t reach

    values_fine : (w : World) (t : Transfer) (x : Checked (List ListedValue)) → Led t → Fine (values_put w t x)
    unfolding values_put
    values_fine w t (Fails act) reach = tt
    values_fine w t (Gives vs) reach = put_fine w (record t { values = t.values ++ vs }) (made_by t.layout (record t { values = t.values ++ vs }) false) going_on reach going_fine

    each_fine : (w : World) (t : Transfer) (qs : List Spot) → Led t → Fine (each_put w t qs)
    unfolding each_put
    each_fine w t [] reach = going_fine w t reach
    each_fine w t (q ∷ qs) reach = met_fine w t (λ s. given_that (fetch s q) listed_value) (λ after longer. each_put after longer qs) reach (λ after longer r. each_fine after longer qs r)

    formatted_fine : (w : World) (t : Transfer) (d : Datum) → Led t → Fine (formatted_put w t d)
    unfolding formatted_put
    formatted_fine w t (IsSpot q) reach = each_fine w t (elements q) reach
    formatted_fine w t (value.IsInt z) reach = met_fine w t (λ s. listed_value (value.IsInt z)) going_on reach going_fine
    formatted_fine w t (value.IsLog z) reach = met_fine w t (λ s. listed_value (value.IsLog z)) going_on reach going_fine
    formatted_fine w t (value.IsText z) reach = met_fine w t (λ s. listed_value (value.IsText z)) going_on reach going_fine
    formatted_fine w t (value.IsProc z) reach = met_fine w t (λ s. listed_value (value.IsProc z)) going_on reach going_fine
    formatted_fine w t (value.IsLabel z) reach = met_fine w t (λ s. listed_value (value.IsLabel z)) going_on reach going_fine
    formatted_fine w t value.Nothing reach = met_fine w t (λ s. listed_value value.Nothing) going_on reach going_fine

    written_fine : (layout : Layout) (w : World) (t : Transfer) (d : Datum) → Led t → Fine (item_written layout w t d)
    unfolding item_written
    written_fine Listed w t d reach = values_fine w t (values_of w.store d) reach
    written_fine (Labelled label) w t d reach = formatted_fine w t d reach
    written_fine Computed w t d reach = formatted_fine w t d reach
    written_fine Unformatted w t d reach = formatted_fine w t d reach

    filled_fine : (w : World) (t : Transfer) (qs : List Spot) → Led t → Fine (each_filled w t qs)
    unfolding each_filled
    filled_fine w t [] reach = going_fine w t reach
    filled_fine w t (q ∷ qs) reach =
        then_fine w t (item_taken t.layout t (supply w t) q w.store) (λ after longer. each_filled after longer qs) reach (taken_fine t.layout t (supply w t) q w.store reach) (λ after longer r. filled_fine after longer qs r)

    place_fine : (w : World) (t : Transfer) (d : Datum) → Led t → Fine (place_filled w t d)
    unfolding place_filled
    place_fine w t (IsSpot q) reach = filled_fine w t (elements q) reach
    place_fine w t (value.IsInt z) reach = tt
    place_fine w t (value.IsLog z) reach = tt
    place_fine w t (value.IsText z) reach = tt
    place_fine w t (value.IsProc z) reach = tt
    place_fine w t (value.IsLabel z) reach = tt
    place_fine w t value.Nothing reach = tt

    done_by : (w : World) (t : Transfer) (d : Datum) (way : Direction) → Led t → Fine (item_done w d (Some (record t { direction = way })))
    unfolding item_done
    done_by w t d Output reach = written_fine t.layout w (record t { direction = Output }) d reach
    done_by w t d Input reach = place_fine w (record t { direction = Input }) d reach

    pub done_fine : (w : World) (d : Datum) (x : Option Transfer) → IsOwn p i x → Fine (item_done w d x)
    unfolding item_done
    done_fine w d None reach = tt
    done_fine w d (Some t) reach = done_by w t d t.direction reach

    first_fine : (s : Store) (t : Transfer) (all : Supply) (lines : List Bytes) → Led t → TakingIs (first_read s t all lines)
    unfolding first_read
    first_fine s t all [] reach = ran_fine all.lines all.beyond s
    first_fine s t all (line ∷ later) reach = reach

    with_way : (w : World) (t : Transfer) (way : Direction) → Led t → Fine (started_with w (record t { direction = way }))
    unfolding started_with
    with_way w t Output reach = going_fine w (record t { direction = Output }) reach
    with_way w t Input reach =
        then_fine w (record t { direction = Input }) _ going_on reach (first_fine w.store (record t { direction = Input }) (supply w (record t { direction = Input })) (supply w (record t { direction = Input })).lines reach) going_fine

    started_fine : (w : World) (way : Direction) (layout : Layout) (controls : Controls) (status : Option Spot) (medium : Medium) (x : format.Found) → ControlsReach p i controls → Fine (started_by w way layout controls status medium x)
    unfolding started_by new_transfer
    started_fine w way layout controls status medium (IsFormat edits) reach = with_way w (new_transfer way layout controls status w medium edits) way reach
    started_fine w way layout controls status medium NoFormat reach = fails_fine w _ controls status reach
    started_fine w way layout controls status medium NotDefined reach = tt
    started_fine w way layout controls status medium TooShort reach = tt

    usable_fine : (w : World) (way : Direction) (layout : Layout) (controls : Controls) (status : Option Spot) (medium : Medium) (x : format.Found) (b : Bool) → ControlsReach p i controls →
        Fine (if b then started_by w way layout controls status medium x else fails_with w (pos 6) controls status)
    usable_fine w way layout controls status medium x true reach = started_fine w way layout controls status medium x reach
    usable_fine w way layout controls status medium x false reach = fails_fine w (pos 6) controls status reach

    begun_fine : (w : World) (way : Direction) (layout : Layout) (controls : Controls) (status : Option Spot) (medium : Option Medium) (x : Checked format.Found) → ControlsReach p i controls → Fine (begun_on w way layout controls status medium x)
    unfolding begun_on
    begun_fine w way layout controls status medium (Fails act) reach = tt
    begun_fine w way layout controls status None (Gives found) reach = tt
    begun_fine w way layout controls status (Some medium) (Gives found) reach = usable_fine w way layout controls status medium found (is_usable medium w.units) reach

    pub begins_fine : (formats : List LabelledFormat) (w : World) (way : Direction) (layout : Layout) (controls : Controls) (ds : List Datum) → ControlsReach p i controls → Fine (begins formats w way layout controls ds None)
    unfolding begins
    begins_fine formats w way layout controls ds reach =
        begun_fine w way layout controls (status_of controls.words ds) (medium_of controls.words ds) (format_for formats w.store layout (operand_for is_format_word controls.words ds)) reach
