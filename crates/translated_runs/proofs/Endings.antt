-- How the command ends on the texts of a translation, by how a command ends.
use Rattle.std.specs.Prelude.{◌≡◌, ℕ, ◌*◌, ◌≤◌, ℤ, true, List, Option, Some, None, Result, Ok, Err}
use Rattle.std.proofs.Common.{sym, ap, ◌∙◌, subst}
use Rattle.std.proofs.lemmas.List.{append-nil}
use Rattle.std.proofs.lemmas.Bool.{eqb-true}
use Rattle.ended_runs.specs.EndedRuns.{HasEnded}
use Rattle.ended_runs.specs.faithful.simulation.Machine.{State}
use Rattle.ended_runs.specs.faithful.run_state.Endings.{Ending, Plain, Stop, Io, Range}
use Rattle.ended_runs.specs.faithful.run_state.Units.{Units}
use Rattle.ended_runs.specs.faithful.UnitsAtStart.{IsUnits}
use Rattle.ended_runs.specs.faithful.Faithful.{Faithful, SpellAll, is_linked}
use Rattle.ended_runs.specs.f_tree.declared.names.Options.{Options}
use Rattle.ended_runs.specs.f_tree.declared.units.File.{File}
use Rattle.ended_runs.specs.f_tree.Meaning.{units_in, Closed}
use Rattle.ended_runs.specs.c_tree.declared.file.CFile.{CFile}
use Rattle.ended_runs.specs.c_tree.Objects.{Object}
use Rattle.ended_runs.specs.c_tree.Linking.{first_broken_rule}
use Rattle.ended_runs.specs.c_tree.Meaning as meaning
use Rattle.ended_runs.specs.c_tree.Meaning.{step_factor}
use Rattle.ended_runs.specs.c_tree.Steps.{sorts}
use Rattle.ended_runs.proofs.EndedTexts.{runs_end_alike}
use Rattle.f2c_outside.specs.declared.shelves.Place.TheVariants.{Fault}
use Rattle.f2c_outside.specs.Shelf.{ShelfState, Contents, Quiet, added}
use Rattle.f2c_outside.specs.Table.{Row}
use Rattle.f2c_outside.specs.Meaning.{Tells, units_of}
use Rattle.shelf_texts.specs.ShelfLoops.{IsKept}
use Rattle.shelf_texts.specs.Messages.{Said}
use Rattle.source_files.specs.SourceReads.{IsAwayAmong}
use Rattle.c_sources.specs.CFiles.{AreTreesRead, IsRefusedAmong}
use Rattle.outcomes.specs.Lines.{no_memory_line, shelf_fault_line}
use Rattle.run_words.specs.declared.request.RunRequest.{RunRequest}
use Rattle.run_words.specs.RunWords.{run_of}
use Rattle.loaded_runs.specs.RunEnds as run_ends
use Rattle.loaded_runs.specs.RunEnds.{CountsInRun, NoDeviceFailed, DeviceFailed}
use Rattle.run_messages.specs.RunLines.{link_line, io_line, range_line, stop_line, device_line, uncounted_line}
use Rattle.run_reports.specs.Reports.{SaysEnding, ending_status}
use Rattle.run_command.specs.RunRows as rows_of_runs
use Rattle.run_command.specs.RunRows.{c_places, Runs, StandsAt, RunEnded, bad_word, not_there, unread, not_c, not_linked, ended, faulty, out_of_steps}
use Rattle.translated_runs.specs.TranslatedRuns as law
use Rattle.translated_runs.specs.TranslatedRuns.{FortranEnds, HoldTexts, ending_line, RunEndsAlike, RunsOfTranslationsEndAlike}
use Rattle.translated_runs.proofs.TextsOnShelf.{trees_are, not_refused}
use Rattle.translated_runs.proofs.Excluded.{not_away, not_failed, line_said}

-- ## What is said

-- the line of an ending stands on Fault, behind what the shelf held
ending_said : (ending : Ending) (contents : Contents) (b m a : ShelfState) → b.told ≡ Some contents → Quiet b.faults a.faults → IsKept b m → SaysEnding ending m a
    → a.told ≡ Some (added Fault (ending_line ending) contents)
ending_said Plain contents b m a told quiet kept same =
    ap (λ (shelf : ShelfState). shelf.told) same
    ∙ kept.same
    ∙ told
    ∙ ap (λ (bytes : List ℕ). Some (record contents { fault = bytes })) (sym (append-nil contents.fault))
ending_said (Stop text) contents b m a told quiet kept said = line_said (stop_line text) contents b m a told quiet kept said
ending_said (Io number) contents b m a told quiet kept said = line_said (io_line number) contents b m a told quiet kept said
ending_said (Range report) contents b m a told quiet kept said = line_said (range_line report) contents b m a told quiet kept said

-- ## How the run stands

-- an ended state has one outcome
outcome_is : (ending : Ending) (left : Units) (state : State Ending sorts) → HasEnded ending left state → meaning.outcome state ≡ meaning.Ended ending
unfolding meaning.outcome
outcome_is ending left state has = ap meaning.outcome has.over

-- and the units that it leaves
left_in : (ending : Ending) (left : Units) (state : State Ending sorts) → HasEnded ending left state → run_ends.units_in state ≡ Some left
left_in ending left state has = ap run_ends.units_in has.over ∙ ap Some has.units_left

-- ## The command

-- words have one answer
one_answer : (answer : Result RunRequest ℕ) (one other : RunRequest) → answer ≡ Ok one → answer ≡ Ok other → other ≡ one
one_answer answer one other first second = cc

no_number : (answer : Result RunRequest ℕ) (one : RunRequest) (number : ℕ) → answer ≡ Ok one → answer ≡ Err number → ⊥
no_number answer one number first second = absurd (cc)

-- a translation breaks no rule of linking but the fourth
fourth_alone : (broken : Option ℕ) (rule : ℕ) → is_linked broken ≡ true → broken ≡ Some rule → rule ≡ 4
unfolding is_linked
fourth_alone None rule linked is = absurd (cc)
fourth_alone (Some other) rule linked is = let same : rule ≡ other = cc in same ∙ eqb-true other 4 linked

-- what the premises of the law say
record Given (words : List (List ℕ)) (request : RunRequest) (texts : List (List ℕ)) (trees : List CFile) (contents : Contents) (b a : ShelfState) (rows : List Row)
    (ending : Ending) (left : Units) : Type 0 where
  asked : run_of words ≡ Ok request
  told : b.told ≡ Some contents
  quiet : Quiet b.faults a.faults
  holds : HoldTexts request texts contents
  spelled : SpellAll texts trees
  linked : is_linked (first_broken_rule trees) ≡ true
  tells : Tells rows
  over : HasEnded ending left (meaning.meaning trees (units_of rows) request.steps)

module _ {words : List (List ℕ)} {request : RunRequest} {texts : List (List ℕ)} {trees : List CFile} {contents : Contents} {b a : ShelfState} {rows : List Row}
    {ending : Ending} {left : Units} (given : Given words request texts trees contents b a rows ending left) (rows' : List Row) where
  -- the words ask for one run
  asked_once : (other : RunRequest) → run_of words ≡ Ok other → other ≡ request
  asked_once other also = one_answer (run_of words) request other given.asked also

  asked_well : (number : ℕ) → run_of words ≡ Err number → ⊥
  asked_well number also = no_number (run_of words) request number given.asked also

  -- of which these files were read
  read_are : (other : RunRequest) → run_of words ≡ Ok other → (files : List CFile) (m : ShelfState) → AreTreesRead (c_places other) files b m → files ≡ trees
  read_are other also files m read =
      trees_are (c_places request) texts trees contents b given.told given.holds.held given.holds.short given.spelled files m
      (subst (λ (one : RunRequest). AreTreesRead (c_places one) files b m) (asked_once other also) read)

  -- and their run has ended
  has_ended : (other : RunRequest) (files : List CFile) (m : ShelfState) → Runs words other files b m
      → HasEnded ending left (meaning.meaning files (units_of rows) other.steps)
  has_ended other files m runs =
      subst (λ (one : RunRequest). HasEnded ending left (meaning.meaning files (units_of rows) one.steps)) (sym (asked_once other runs.asked))
      (subst (λ (those : List CFile). HasEnded ending left (meaning.meaning those (units_of rows) request.steps)) (sym (read_are other runs.asked files m runs.trees)) given.over)

  outcome_of : (other : RunRequest) (files : List CFile) (m : ShelfState) → Runs words other files b m
      → meaning.outcome (meaning.meaning files (units_of rows) other.steps) ≡ meaning.Ended ending
  outcome_of other files m runs = outcome_is ending left (meaning.meaning files (units_of rows) other.steps) (has_ended other files m runs)

  -- nothing else was run
  not_other : (how : meaning.Outcome) (other : RunRequest) (files : List CFile) (m : ShelfState) → Runs words other files b m
      → meaning.outcome (meaning.meaning files (units_of rows) other.steps) ≡ how → meaning.Ended ending ≡ how
  not_other how other files m runs is = sym (outcome_of other files m runs) ∙ is

  -- a device that failed did so in the run of the translation
  failed_alike : (other : RunRequest) (files : List CFile) (m : ShelfState) → Runs words other files b m → (unit : ℤ) (taken : ℕ) (objects : List Object)
      → DeviceFailed files other.steps taken objects unit rows rows' → DeviceFailed trees request.steps taken objects unit rows rows'
  failed_alike other files m runs unit taken objects failed =
      subst (λ (one : RunRequest). DeviceFailed trees one.steps taken objects unit rows rows') (asked_once other runs.asked)
      (subst (λ (those : List CFile). DeviceFailed those other.steps taken objects unit rows rows') (read_are other runs.asked files m runs.trees) failed)

  -- and so did a call that was to count more than 64 bits tell
  counts_alike : (other : RunRequest) (files : List CFile) (m : ShelfState) → Runs words other files b m → (taken : ℕ)
      → CountsInRun files other.steps taken rows rows' → CountsInRun trees request.steps taken rows rows'
  counts_alike other files m runs taken counts =
      subst (λ (one : RunRequest). CountsInRun trees one.steps taken rows rows') (asked_once other runs.asked)
      (subst (λ (those : List CFile). CountsInRun those other.steps taken rows rows') (read_are other runs.asked files m runs.trees) counts)

  -- the end of a run that ended
  ends_alike : (other : RunRequest) (files : List CFile) (how : Ending) (m : ShelfState) → Runs words other files b m
      → StandsAt files other.steps rows rows' (meaning.Ended how) → NoDeviceFailed rows rows' → SaysEnding how m a
      → RunEndsAlike trees request.steps ending left rows rows' contents a (ending_status how)
  ends_alike other files how m runs stands devices says =
      let outcomes : meaning.Ended ending ≡ meaning.Ended how = not_other (meaning.Ended how) other files m runs stands.outcome in
      let same : how ≡ ending = cc in
      let units : Some (units_of rows') ≡ Some left =
      sym stands.units ∙ left_in ending left (meaning.meaning files (units_of rows) other.steps) (has_ended other files m runs) in
      let units_are : units_of rows' ≡ left = cc in
      subst (λ (one : Ending). RunEndsAlike trees request.steps ending left rows rows' contents a (ending_status one)) (sym same)
      (record {
        line = ending_line ending;
        ends = law.alike units_are devices;
        said = ending_said ending contents b m a given.told given.quiet runs.trees.kept (subst (λ (one : Ending). SaysEnding one m a) same says);
      })

  -- by how a command ends
  ends : (status : ℕ) → RunEnded words rows rows' b a status → RunEndsAlike trees request.steps ending left rows rows' contents a status
  ends _ (bad_word number also said same) = absurd (asked_well number also)
  ends _ (not_there other name m also away said same) =
      absurd (not_away (c_places request) contents name b m given.told given.holds.there
      (subst (λ (one : RunRequest). IsAwayAmong (c_places one) name b m) (asked_once other also) away))
  ends _ (unread other place m also failed said same) =
      absurd (not_failed (c_places other) place (shelf_fault_line place) b m a given.quiet failed said)
  ends _ (rows_of_runs.no_memory m kept said same) = record {
    line = no_memory_line;
    ends = law.no_memory same;
    said = line_said no_memory_line contents b m a given.told given.quiet kept said;
  }
  ends _ (not_c other name line m also refused said same) =
      absurd (not_refused (c_places request) texts trees contents b given.told given.holds.held given.holds.short given.spelled name line m
      (subst (λ (one : RunRequest). IsRefusedAmong (c_places one) name line b m) (asked_once other also) refused))
  ends _ (not_linked other files rule m also read broken said same) =
      let rule_is : first_broken_rule trees ≡ Some rule = ap first_broken_rule (sym (read_are other also files m read)) ∙ broken in
      let fourth : rule ≡ 4 = fourth_alone (first_broken_rule trees) rule given.linked rule_is in
      record {
        line = link_line 4;
        ends = law.too_large (rule_is ∙ ap Some fourth) same;
        said = line_said (link_line 4) contents b m a given.told given.quiet read.kept (subst (λ one. Said (link_line one) m a) fourth said);
      }
  ends _ (ended other files how m runs stands devices says) = ends_alike other files how m runs (stands given.tells) devices says
  ends _ (faulty other files kind number m runs is devices said) =
      let fault = is given.tells in
      absurd (let both : meaning.Ended ending ≡ meaning.Fault fault.fault number = not_other (meaning.Fault fault.fault number) other files m runs fault.outcome in cc)
  ends _ (out_of_steps other files m runs stands devices said) =
      absurd (let both : meaning.Ended ending ≡ meaning.Running = not_other meaning.Running other files m runs (stands given.tells).outcome in cc)
  ends _ (rows_of_runs.device other files unit taken objects m runs failed said) = record {
    line = device_line unit;
    ends = law.device unit taken objects (failed_alike other files m runs unit taken objects failed);
    said = line_said (device_line unit) contents b m a given.told given.quiet runs.trees.kept said;
  }
  ends _ (rows_of_runs.uncounted other files taken m runs counts devices said) = record {
    line = uncounted_line;
    ends = law.uncounted taken (counts_alike other files m runs taken counts) devices;
    said = line_said uncounted_line contents b m a given.told given.quiet runs.trees.kept said;
  }

-- ## The law

-- the FORTRAN run has ended, so that of the files has
over_alike : (options : Options) (trees : List File) (texts : List (List ℕ)) (faithful : Faithful options trees texts) → Closed (units_in options trees) → (units : Units) → IsUnits units
    → (n : ℕ) (ending : Ending) (left : Units) → FortranEnds (units_in options trees) units n ending left → (steps : ℕ) → step_factor faithful.c_trees * n ≤ steps
    → HasEnded ending left (meaning.meaning faithful.c_trees units steps)
over_alike options trees texts faithful closed units are_units n ending left ends steps enough =
    subst (λ those. HasEnded ending those (meaning.meaning faithful.c_trees units steps)) ends.units_left
    (runs_end_alike options trees texts faithful.c_trees faithful faithful.written closed ends.setting ends.is_setting units are_units n ending ends.procedures ends.world
    ends.over steps enough)

pub translations_end_alike : RunsOfTranslationsEndAlike
translations_end_alike options trees texts faithful closed words request asked b a contents told quiet holds rows rows' tells are_units n ending left fortran_ends enough status ended_so =
    ends
    (record {
      asked = asked;
      told = told;
      quiet = quiet;
      holds = holds;
      spelled = faithful.written;
      linked = (faithful.closed closed).linked;
      tells = tells;
      over = over_alike options trees texts faithful closed (units_of rows) are_units n ending left fortran_ends request.steps enough;
    })
    rows' status ended_so
