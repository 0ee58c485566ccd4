-- How a run of a program to which files are linked ends, by what is said of it.
use Rattle.std.proofs.Common.{◌≡◌, ℕ, ℤ, ◌<◌, ◌≤◌, ◌^◌, List, [], ◌∷◌, Option, Some, None, refl, ap, sym, ◌∙◌, subst}
use Rattle.std.specs.Prelude.{Result, Ok, Err, IfOk}
use Rattle.c_tree.specs.simulation.Machine.{State, Runs, Over, Broken}
use Rattle.c_tree.specs.run_state.Endings.{Ending}
use Rattle.c_tree.specs.run_state.Units.{Units}
use Rattle.c_tree.specs.declared.outcome.CFault.{CFault}
use Rattle.c_tree.specs.declared.file.CFile.{CFile}
use Rattle.c_tree.specs.Faults.{Faults, NoMeaning}
use Rattle.c_tree.specs.Objects.{Object}
use Rattle.c_tree.specs.World.{World}
use Rattle.c_tree.specs.Linking.{Program, program, first_broken_rule}
use Rattle.c_tree.specs.Steps.{sorts}
use Rattle.c_tree.specs.Meaning as meaning
use Rattle.c_tree.specs.Meaning.{run_of, text_of}
use Rattle.c_totality.specs.Totality.{AreWellFormed, each_kept, NoRunIsWithoutMeaning}
use Rattle.f2c_outside.specs.Table.{Row}
use Rattle.f2c_outside.specs.Meaning.{Tells, units_of}
use Rattle.listed_input.specs.Fetching.{position_of}
use Rattle.linked_programs.specs.LinkedPrograms.{program_of}
use Rattle.linked_programs.specs.declared.programs.LinkedProgram.{LinkedProgram}
use Rattle.unit_answers.specs.Failing.{NoneFailed, FailedOn}
use Rattle.item_deeds.specs.Deeds.{world_of}
use Rattle.item_deeds.specs.Calls.{LibraryCall, next_call}
use Rattle.run_library.specs.Replies.{StandsIn}
use Rattle.run_library.specs.Devices as devices_of
use Rattle.run_library.specs.Devices.{NoFailure, one_more}
use Rattle.run_library.specs.declared.library.RunBreak.TheVariants as reason
use Rattle.program_runner.specs.Outcomes.{Stands, IsRunOf, UnlessFailed, UnlessRunFailed, ToldOfRun, ToldOfWholeRun}
use Rattle.program_runner.specs.UnitsLeft.{UnitsLeft, FailedOnUnit, CallIsOn, no_call, call_breaks, call_replied}
use Rattle.program_runner.specs.Taken.{IsLast, IsBroken, StandsBehind, TakenBy}
use Rattle.program_runner.specs.declared.runs.RunTaken.{RunTaken}
use Rattle.program_runner.specs.declared.runs.RunOutcome.{RunOutcome}
use Rattle.program_runner.specs.declared.runs.RunOutcome.TheVariants as ran
use Rattle.unit_library.specs.declared.endings.RunEnding.{RunEnding}
use Rattle.unit_library.specs.declared.endings.RunEnding.TheVariants as ending
use Rattle.unit_library.specs.declared.transfers.TransferInProgress.{TransferInProgress}
use Rattle.unit_library.specs.Endings.{ending_of}
use Rattle.unit_library.specs.Transfers.{Standing}
use Rattle.unit_library.specs.Uncounted.{IsFarBehind}
use Rattle.loaded_runs.specs.declared.ends.RunEnd.{RunEnd}
use Rattle.loaded_runs.specs.declared.ends.RunEnd.TheVariants as how
use Rattle.loaded_runs.specs.RunEnds.{MakesCallOn, outcome_end, end_of, steps_of, units_in, EndsBy, IsGoingOn, IsOverBy, LeavesUnits, IsBrokenBy, CallsOn, IsReached, IsNoFailure, FailsInRun, DevicesInRun, DevicesOf, NoDeviceFailed, in_the_run, behind_it, Finishes, failed_before, finished, failed_now, IsUncounted, IsRun}

-- ONE STATE
goes-on : (state : State Ending sorts) (units : Units) (objects : List Object) (number : ℕ) (view : _) (frames : _) (world : World) → state ≡ Runs number view frames world → world.units ≡ units → EndsBy state units objects how.Running
unfolding meaning.outcome
goes-on state units objects number view frames world is same = (ap meaning.outcome is, ap units_in is ∙ ap Some same)

is-over : (state : State Ending sorts) (units : Units) (objects : List Object) (ended : RunEnding) (frames : _) (world : World) → state ≡ Over (ending_of objects ended) frames world → world.units ≡ units →
    EndsBy state units objects (how.Ended ended)
unfolding meaning.outcome
is-over state units objects ended frames world is same = (ap meaning.outcome is, ap units_in is ∙ ap Some same)

by-fault : (state : State Ending sorts) (units : Units) (objects : List Object) (fault : CFault) (number : ℕ) (callers : List ℕ) → state ≡ Broken (Faults fault) (number ∷ callers) →
    EndsBy state units objects (how.Broken (reason.Fault fault) number)
unfolding meaning.outcome
by-fault state units objects fault number callers is = ap meaning.outcome is

by-nothing : (state : State Ending sorts) (numbers : List ℕ) → state ≡ Broken NoMeaning numbers → meaning.outcome state ≡ meaning.Meaningless
unfolding meaning.outcome
by-nothing state numbers is = ap meaning.outcome is

at-first : (state : State Ending sorts) (fault : CFault) → state ≡ Broken (Faults fault) [] → meaning.outcome state ≡ meaning.Meaningless
unfolding meaning.outcome
at-first state fault is = ap meaning.outcome is

-- A RUN THAT COMES TO A STATE THAT HAS A MEANING
ends-so : (state : State Ending sorts) (rows : List Row) (held : Option TransferInProgress) (objects : List Object) (stood : RunOutcome RunEnding) → (meaning.outcome state ≡ meaning.Meaningless → ⊥) →
    UnlessFailed stood (StandsIn (Standing rows held) objects (λ after. Stands ending_of state after stood)) → EndsBy state (units_of rows) objects (outcome_end stood)
ends-so state rows held objects ran.Running meant stands =
    let holds = stands.holds in goes-on state (units_of rows) objects holds.0 holds.1 holds.2 (world_of objects stands.units stands.transfer) holds.3 stands.stood.means
ends-so state rows held objects ran.Returned meant stands =
    is-over state (units_of rows) objects ending.Plain [] (world_of objects stands.units stands.transfer) stands.holds stands.stood.means
ends-so state rows held objects (ran.Stopped ended) meant stands =
    is-over state (units_of rows) objects ended stands.holds.0 (world_of objects stands.units stands.transfer) stands.holds.1 stands.stood.means
ends-so state rows held objects (ran.Broken (reason.Fault fault) number) meant stands = by-fault state (units_of rows) objects fault number stands.holds.0 stands.holds.1
ends-so state rows held objects (ran.Broken reason.Meaningless number) meant stands = meant (by-nothing state (number ∷ stands.holds.0) stands.holds.1)
ends-so state rows held objects (ran.Failed unit) meant stands = tt
ends-so state rows held objects ran.Uncounted meant stands = tt

ends : (state : State Ending sorts) (rows : List Row) (held : Option TransferInProgress) (objects : List Object) (result : Result (RunTaken RunEnding) CFault) → (meaning.outcome state ≡ meaning.Meaningless → ⊥) →
    UnlessRunFailed result (StandsIn (Standing rows held) objects (λ after. IsRunOf ending_of state after result)) → EndsBy state (units_of rows) objects (end_of result)
ends state rows held objects (Ok taken) meant stands = ends-so state rows held objects taken.outcome meant stands
ends state rows held objects (Err fault) meant stands = meant (at-first state fault stands.holds)

-- A RUN OF FILES
is-run-of : (files : List CFile) (linked : LinkedProgram) (units : Units) (steps : ℕ) → program_of linked ≡ program files → run_of (program_of linked) units steps ≡ meaning.meaning files units steps
unfolding meaning.meaning
is-run-of files linked units steps same = ap (λ one. run_of one units steps) same

pub run-ends : (files : List CFile) (linked : LinkedProgram) (rows rows' : List Row) (held held' : Option TransferInProgress) (objects : List Object) (steps : ℕ) (result : Result (RunTaken RunEnding) CFault) →
    NoRunIsWithoutMeaning → AreWellFormed files → first_broken_rule files ≡ None → program_of linked ≡ program files → held ≡ None → Tells rows →
    ((units : Units) → Standing rows held units None → UnlessRunFailed result (StandsIn (Standing rows' held') objects (λ after. IsRunOf ending_of (run_of (program_of linked) units steps) after result))) →
    EndsBy (meaning.meaning files (units_of rows) steps) (units_of rows') objects (end_of result)
run-ends files linked rows rows' held held' objects steps result meant formed rules same none tells stands =
    let units = units_of rows in
    ends (meaning.meaning files units steps) rows' held' objects result (meant files units steps formed (each_kept rules))
    (subst (λ state. UnlessRunFailed result (StandsIn (Standing rows' held') objects (λ after. IsRunOf ending_of state after result))) (is-run-of files linked units steps same)
    (stands units (subst (λ (one : Option TransferInProgress). Standing rows one units None) (sym none) (record { tells = tells; means = refl; in_progress = refl }))))

-- THE STEPS TAKEN
over-by : (files : List CFile) (units : Units) (steps taken : ℕ) → IsLast (run_of (program files) units) steps taken → IsOverBy files units steps taken
unfolding meaning.meaning meaning.outcome
over-by files units steps taken last = record {
  before = last.earlier;
  last = last.next;
  within = last.within;
  goes = ap meaning.outcome last.goes.is;
  stays = last.same;
}

going-on : (files : List CFile) (units : Units) (steps taken : ℕ) (rows : List Row) (held : Option TransferInProgress) (Calls : Option LibraryCall → World → Type 0) → taken < steps →
    StandsBehind (program files) (run_of (program files) units) (Standing rows held) Calls taken → IsGoingOn files units steps taken (units_of rows)
unfolding meaning.meaning meaning.outcome
going-on files units steps taken rows held Calls within stands = record {
  within = within;
  outcome = ap meaning.outcome stands.goes.is;
  units_now = ap units_in stands.goes.is ∙ ap Some stands.stood.means;
}

calls-on : (files : List CFile) (units : Units) (taken : ℕ) (rows rows' : List Row) (held held' : Option TransferInProgress) (unit : ℤ) →
    StandsBehind (program files) (run_of (program files) units) (Standing rows held) (λ called world. FailedOnUnit called world (Standing rows' held') unit) taken → CallsOn files (meaning.meaning files units taken) unit (units_of rows')
unfolding meaning.meaning
calls-on files units taken rows rows' held held' unit stands =
    let fails = stands.calls in
    subst (λ state. CallsOn files state unit (units_of rows')) (sym stands.goes.is)
    (record { call = fails.call; makes = fails.makes; on = fails.on; after = fails.after; stood = fails.stood.means; others = fails.others })

makes-call-on : (files : List CFile) (units : Units) (taken : ℕ) (rows : List Row) (held : Option TransferInProgress) (unit : ℤ) →
    StandsBehind (program files) (run_of (program files) units) (Standing rows held) (λ called world. CallIsOn called world unit) taken → MakesCallOn files (meaning.meaning files units taken) unit
unfolding meaning.meaning
makes-call-on files units taken rows held unit stands = subst (λ state. MakesCallOn files state unit) (sym stands.goes.is) stands.calls

left-by : (called : Option LibraryCall) (before : World) (rows : List Row) (held : Option TransferInProgress) → UnitsLeft called before (Standing rows held) → UnitsLeft called before (λ units transfer. units ≡ units_of rows)
left-by called before rows held (no_call none stood) = no_call none stood.means
left-by called before rows held (call_breaks call is why breaks after stood keeps) = call_breaks call is why breaks after stood.means keeps
left-by called before rows held (call_replied call is reply replies stood) = call_replied call is reply replies stood.means

broken-by : (files : List CFile) (units : Units) (steps taken : ℕ) (rows : List Row) (held : Option TransferInProgress) → IsBroken (program files) (run_of (program files) units) (Standing rows held) steps taken →
    IsBrokenBy files units steps taken (units_of rows)
unfolding meaning.meaning over-by
broken-by files units steps taken rows held broken =
    let last = broken.last in
    record {
      over = over-by files units steps taken last;
      leaves = subst (λ state. LeavesUnits files state (units_of rows)) (sym last.goes.is) (left-by (next_call (text_of (program files).functions last.goes.number) last.goes.view last.before) last.before rows held broken.units);
    }

-- WITH A LIBRARY
-- calls between libraries are calls between what they hold
none-in : {L R : Type 0} (shown : L → R) (none : R → R → Type 0) (first last : L) → NoFailure (λ b a. none (shown b) (shown a)) first last → NoFailure none (shown first) (shown last)
none-in shown none first last devices_of.no_call = devices_of.no_call
none-in shown none first last (one_more before after earlier here) = one_more (shown before) (shown after) (none-in shown none first before earlier) here

module _ {L : Type 0} (shown : L → List Row) (going : L → Option TransferInProgress) (steps : ℕ) (first last : L) where
  -- the library stands for the units before a run, and no transfer is in progress
  abbrev Begun : Units → Type 0
  Begun units = Standing (shown first) (going first) units None

  abbrev Taken : Program → ℕ → RunOutcome RunEnding → Type 0
  Taken linked taken stood =
      TakenBy linked Begun (run_of linked) (λ held. Standing (shown held) (going held)) (λ b a. NoneFailed (shown b) (shown a)) (λ unit b a. FailedOn unit (shown b) (shown a)) (λ unit held. IsFarBehind unit (shown held)) steps first last taken stood

  begun : going first ≡ None → Tells (shown first) → Begun (units_of (shown first))
  begun none tells = subst (λ (one : Option TransferInProgress). Standing (shown first) one (units_of (shown first)) None) (sym none) (record { tells = tells; means = refl; in_progress = refl })

  reached-so : (files : List CFile) (taken : ℕ) (stood : RunOutcome RunEnding) → Begun (units_of (shown first)) → Taken (program files) taken stood →
      IsReached files (units_of (shown first)) steps (units_of (shown last)) taken (outcome_end stood)
  unfolding meaning.meaning meaning.outcome
  reached-so files taken ran.Running begins told = told
  reached-so files taken ran.Returned begins told = over-by files (units_of (shown first)) steps taken (told (units_of (shown first)) begins)
  reached-so files taken (ran.Stopped ended) begins told = over-by files (units_of (shown first)) steps taken (told (units_of (shown first)) begins)
  reached-so files taken (ran.Broken why number) begins told = broken-by files (units_of (shown first)) steps taken (shown last) (going last) (told (units_of (shown first)) begins)
  reached-so files taken (ran.Failed unit) begins told = tt
  reached-so files taken ran.Uncounted begins told = tt

  devices-so : (files : List CFile) (taken : ℕ) (stood : RunOutcome RunEnding) → going first ≡ None → Taken (program files) taken stood →
      ToldOfRun (λ b a. NoneFailed (shown b) (shown a)) (λ unit b a. FailedOn unit (shown b) (shown a)) first last stood → DevicesInRun files steps taken (shown first) (shown last) (outcome_end stood)
  devices-so files taken ran.Running none told calls = none-in shown NoneFailed first last calls
  devices-so files taken ran.Returned none told calls = none-in shown NoneFailed first last calls
  devices-so files taken (ran.Stopped ended) none told calls = none-in shown NoneFailed first last calls
  devices-so files taken (ran.Broken why number) none told calls = none-in shown NoneFailed first last calls
  devices-so files taken (ran.Failed unit) none told calls = record {
    middle = shown told.middle;
    none = none-in shown NoneFailed first told.middle told.none;
    failed = told.failed;
    goes = λ tells.
        going-on files (units_of (shown first)) steps taken (shown told.middle) (going told.middle) (λ called world. FailedOnUnit called world (Standing (shown last) (going last)) unit) told.within
        (told.stood (units_of (shown first)) (begun none tells));
    calls = λ tells. calls-on files (units_of (shown first)) taken (shown told.middle) (shown last) (going told.middle) (going last) unit (told.stood (units_of (shown first)) (begun none tells));
  }
  devices-so files taken ran.Uncounted none told calls = none-in shown NoneFailed first last calls

  taken-in : (files : List CFile) (linked : LinkedProgram) (taken : ℕ) (stood : RunOutcome RunEnding) → program_of linked ≡ program files → Taken (program_of linked) taken stood → Taken (program files) taken stood
  taken-in files linked taken stood same told = subst (λ (one : Program). Taken one taken stood) same told

  pub reached : (files : List CFile) (linked : LinkedProgram) (result : Result (RunTaken RunEnding) CFault) → program_of linked ≡ program files → going first ≡ None →
      IfOk result (λ taken. Taken (program_of linked) taken.steps taken.outcome) → Tells (shown first) →
      IsReached files (units_of (shown first)) steps (units_of (shown last)) (steps_of result) (end_of result)
  reached files linked (Ok taken) same none told tells = reached-so files taken.steps taken.outcome (begun none tells) (taken-in files linked taken.steps taken.outcome same told)
  reached files linked (Err fault) same none told tells = refl

  pub devices : (files : List CFile) (linked : LinkedProgram) (result : Result (RunTaken RunEnding) CFault) → program_of linked ≡ program files → going first ≡ None →
      IfOk result (λ taken. Taken (program_of linked) taken.steps taken.outcome) →
      ToldOfWholeRun (λ b a. NoneFailed (shown b) (shown a)) (λ unit b a. FailedOn unit (shown b) (shown a)) first last result →
      DevicesInRun files steps (steps_of result) (shown first) (shown last) (end_of result)
  devices files linked (Ok taken) same none told whole = devices-so files taken.steps taken.outcome none (taken-in files linked taken.steps taken.outcome same told) whole
  devices files linked (Err fault) same none told whole = none-in shown NoneFailed first last whole

  -- more to be counted than 64 bits tell
  uncounted-so : (files : List CFile) (taken : ℕ) (stood : RunOutcome RunEnding) → going first ≡ None → Taken (program files) taken stood →
      IsUncounted files steps taken (shown first) (shown last) (outcome_end stood)
  uncounted-so files taken ran.Running none told = tt
  uncounted-so files taken ran.Returned none told = tt
  uncounted-so files taken (ran.Stopped ended) none told = tt
  uncounted-so files taken (ran.Broken why number) none told = tt
  uncounted-so files taken (ran.Failed unit) none told = tt
  uncounted-so files taken ran.Uncounted none told = record {
    unit = told.unit;
    middle = shown told.middle;
    none = none-in shown NoneFailed first told.middle told.none;
    goes = λ tells.
        going-on files (units_of (shown first)) steps taken (shown told.middle) (going told.middle) (λ called world. CallIsOn called world told.unit) told.within
        (told.stood (units_of (shown first)) (begun none tells));
    calls = λ tells. makes-call-on files (units_of (shown first)) taken (shown told.middle) (going told.middle) told.unit (told.stood (units_of (shown first)) (begun none tells));
    far = told.far;
  }

  pub uncounted : (files : List CFile) (linked : LinkedProgram) (result : Result (RunTaken RunEnding) CFault) → program_of linked ≡ program files → going first ≡ None →
      IfOk result (λ taken. Taken (program_of linked) taken.steps taken.outcome) → IsUncounted files steps (steps_of result) (shown first) (shown last) (end_of result)
  uncounted files linked (Ok taken) same none told = uncounted-so files taken.steps taken.outcome none (taken-in files linked taken.steps taken.outcome same told)
  uncounted files linked (Err fault) same none told = tt

-- FINISHING
-- finishing the devices keeps what the meaning has
kept : (state : State Ending sorts) (units units' : Units) (objects : List Object) (ended : RunEnd) → units' ≡ units → EndsBy state units objects ended → EndsBy state units' objects ended
kept state units units' objects ended same by = subst (λ one. EndsBy state one objects ended) (sym same) by

pub finished-ends : (state : State Ending sorts) (rows rows' : List Row) (objects : List Object) (before after : RunEnd) → Finishes rows rows' before after → EndsBy state (units_of rows) objects before →
    EndsBy state (units_of rows') objects after
finished-ends state rows rows' objects before after (failed_before unit was same) by = tt
finished-ends state rows rows' objects before after (finished other all same) by = kept state (units_of rows) (units_of rows') objects before same by
finished-ends state rows rows' objects before after (failed_now unit other first) by = tt

reached-kept : (files : List CFile) (units : Units) (steps taken : ℕ) (left left' : Units) (ended : RunEnd) → left' ≡ left → IsReached files units steps left taken ended → IsReached files units steps left' taken ended
reached-kept files units steps taken left left' ended same so = subst (λ one. IsReached files units steps one taken ended) (sym same) so

finished-reached : (files : List CFile) (units : Units) (steps taken : ℕ) (rows rows' : List Row) (before after : RunEnd) → Finishes rows rows' before after →
    IsReached files units steps (units_of rows) taken before → IsReached files units steps (units_of rows') taken after
finished-reached files units steps taken rows rows' before after (failed_before unit was same) so = tt
finished-reached files units steps taken rows rows' before after (finished other all same) so = reached-kept files units steps taken (units_of rows) (units_of rows') before same so
finished-reached files units steps taken rows rows' before after (failed_now unit other first) so = tt

module _ (files : List CFile) (steps taken : ℕ) where
  in-run : (rows rows' : List Row) (ended : RunEnd) → IsNoFailure ended → DevicesInRun files steps taken rows rows' ended → NoFailure NoneFailed rows rows'
  in-run rows rows' how.Running other none = none
  in-run rows rows' (how.Ended ending) other none = none
  in-run rows rows' (how.Broken why number) other none = none
  in-run rows rows' (how.Unbegun fault) other none = none
  in-run rows rows' (how.Failed unit) other fails = absurd (other unit refl)
  in-run rows rows' how.Uncounted other none = none

  whole : (objects : List Object) (rows rows' : List Row) (ended : RunEnd) → IsNoFailure ended → NoDeviceFailed rows rows' → DevicesOf files steps taken objects rows rows' ended
  whole objects rows rows' how.Running other none = none
  whole objects rows rows' (how.Ended ending) other none = none
  whole objects rows rows' (how.Broken why number) other none = none
  whole objects rows rows' (how.Unbegun fault) other none = none
  whole objects rows rows' (how.Failed unit) other none = absurd (other unit refl)
  whole objects rows rows' how.Uncounted other none = none

  finished-devices : (first rows rows' : List Row) (objects : List Object) (before after : RunEnd) → Finishes rows rows' before after → DevicesInRun files steps taken first rows before →
      (Tells first → EndsBy (meaning.meaning files (units_of first) steps) (units_of rows) objects before) → (Tells first → IsReached files (units_of first) steps (units_of rows) taken before) →
      IsUncounted files steps taken first rows before → DevicesOf files steps taken objects first rows' after
  finished-devices first rows rows' objects before after (failed_before unit was same) told meant so far =
      in_the_run (subst (λ last. FailsInRun files steps taken unit first last) (sym same) (subst (DevicesInRun files steps taken first rows) was told))
  finished-devices first rows rows' objects before after (finished other all same) told meant so far =
      whole objects first rows' before other (record { middle = rows; none = in-run first rows before other told; finished = all })
  finished-devices first rows rows' objects before after (failed_now unit other fault) told meant so far = behind_it (record {
    middle = rows;
    none = in-run first rows before other told;
    first = fault;
    end = before;
    no_failure = other;
    meant = meant;
    reached = so;
    uncounted = far;
  })

far-kept : (files : List CFile) (steps taken : ℕ) (first rows rows' : List Row) (ended : RunEnd) → units_of rows' ≡ units_of rows → IsUncounted files steps taken first rows ended →
    IsUncounted files steps taken first rows' ended
far-kept files steps taken first rows rows' how.Running same counts = tt
far-kept files steps taken first rows rows' (how.Ended ending) same counts = tt
far-kept files steps taken first rows rows' (how.Broken why number) same counts = tt
far-kept files steps taken first rows rows' (how.Unbegun fault) same counts = tt
far-kept files steps taken first rows rows' (how.Failed unit) same counts = tt
far-kept files steps taken first rows rows' how.Uncounted same counts = record {
  unit = counts.unit;
  middle = counts.middle;
  none = counts.none;
  goes = counts.goes;
  calls = counts.calls;
  far = subst (λ (units : Units). 2 ^ 53 ≤ position_of counts.unit units) (sym same) counts.far;
}

finished-uncounted : (files : List CFile) (steps taken : ℕ) (first rows rows' : List Row) (before after : RunEnd) → Finishes rows rows' before after → IsUncounted files steps taken first rows before →
    IsUncounted files steps taken first rows' after
finished-uncounted files steps taken first rows rows' before after (failed_before unit was same) counts = tt
finished-uncounted files steps taken first rows rows' before after (finished other all same) counts = far-kept files steps taken first rows rows' before same counts
finished-uncounted files steps taken first rows rows' before after (failed_now unit other fault) counts = tt

-- a run, where the rows that the library had are those before it and behind it
run-of-rows : (files : List CFile) (steps taken : ℕ) (b m a : List Row) (made : LinkedProgram) (objects : List Object) (before after : RunEnd) → program_of made ≡ program files →
    (Tells b → EndsBy (meaning.meaning files (units_of b) steps) (units_of m) objects before) → (Tells b → IsReached files (units_of b) steps (units_of m) taken before) →
    DevicesInRun files steps taken b m before → IsUncounted files steps taken b m before → Finishes m a before after → IsRun files steps b a made objects after taken
run-of-rows files steps taken b m a made objects before after linked meant so told far finishes = record {
  linked = linked;
  meant = λ tells. finished-ends (meaning.meaning files (units_of b) steps) m a objects before after finishes (meant tells);
  reached = λ tells. finished-reached files (units_of b) steps taken m a before after finishes (so tells);
  devices = finished-devices files steps taken b m a objects before after finishes told meant so far;
  uncounted = finished-uncounted files steps taken b m a before after finishes far;
}

pub whole-run : (files : List CFile) (steps taken : ℕ) (b b' m m' a : List Row) (made : LinkedProgram) (objects : List Object) (before after : RunEnd) → b' ≡ b → m' ≡ m → program_of made ≡ program files →
    (Tells b' → EndsBy (meaning.meaning files (units_of b') steps) (units_of m) objects before) → (Tells b' → IsReached files (units_of b') steps (units_of m) taken before) →
    DevicesInRun files steps taken b' m before → IsUncounted files steps taken b' m before → Finishes m' a before after → IsRun files steps b a made objects after taken
whole-run files steps taken b b' m m' a made objects before after eb em linked meant so told far finishes =
    subst (λ first. IsRun files steps first a made objects after taken) eb
    (run-of-rows files steps taken b' m a made objects before after linked meant so told far (subst (λ rows. Finishes rows a before after) em finishes))
