-- How the command ends, by how its parts did.
use Rattle.std.proofs.Common.{◌≡◌, ℕ, suc, ◌<◌, ◌≤◌, le_refl, List, refl, ap, sym, ◌∙◌, subst, codes, arith}
use Rattle.std.specs.Prelude.{Ok, Err}
use Rattle.f2c_outside.specs.declared.shelves.Place.{Place}
use Rattle.f2c_outside.specs.Shelf.{ShelfState}
use Rattle.f2c_outside.specs.Table.{Row}
use Rattle.f2c_outside.specs.Meaning.{Tells, units_of}
use Rattle.shelf_texts.specs.Messages.{Said}
use Rattle.c_tree.specs.declared.file.CFile.{CFile}
use Rattle.c_tree.specs.declared.outcome.CFault.{CFault}
use Rattle.c_tree.specs.Objects.{Object}
use Rattle.c_tree.specs.FaultNames.{fault_name}
use Rattle.c_tree.specs.Linking.{Program, program}
use Rattle.c_tree.specs.Meaning as meaning
use Rattle.c_tree.specs.Meaning.{function_name}
use Rattle.linked_programs.specs.LinkedPrograms.{program_of}
use Rattle.linked_programs.specs.declared.programs.LinkedProgram.{LinkedProgram}
use Rattle.outcomes.specs.Lines.{no_memory_line}
use Rattle.run_library.specs.declared.library.RunBreak.TheVariants as reason
use Rattle.run_words.specs.declared.request.RunRequest.{RunRequest}
use Rattle.run_words.specs.declared.request.RunWordsFail.{RunWordsFail}
use Rattle.run_words.specs.declared.request.RunWordsFail.TheVariants as asked
use Rattle.run_words.specs.RunWords.{run_of}
use Rattle.run_words.specs.Reading.{AnswersRun}
use Rattle.program_loader.specs.declared.links.LoadFail.{LoadFail}
use Rattle.program_loader.specs.declared.links.LoadFail.TheVariants as loaded
use Rattle.program_loader.specs.Loaded.{IsNotLoaded}
use Rattle.run_messages.specs.RunLines.{fault_line}
use Rattle.run_reports.specs.Reports.{SaysRun, run_status, name_shown, named_in}
use Rattle.c_sources.specs.declared.failing.CSourceFail.{CSourceFail}
use Rattle.c_sources.specs.declared.failing.CSourceFail.TheVariants as fail
use Rattle.c_sources.specs.CFiles.{AreTreesRead, AreTreesUnread}
use Rattle.unit_library.specs.Endings.{ending_of}
use Rattle.loaded_runs.specs.declared.ends.RunEnd.{RunEnd}
use Rattle.loaded_runs.specs.declared.ends.RunEnd.TheVariants as how
use Rattle.loaded_runs.specs.RunEnds.{IsRun}
use Rattle.run_command.specs.Unread.{SaysUnasked, unasked_status, SaysUnread, unread_status, SaysUnloaded, unloaded_status}
use Rattle.run_command.specs.RunRows.{c_places, Runs, IsFaulty, RunEnded, bad_word, not_there, unread, no_memory, not_c, not_linked, ended, faulty, out_of_steps, device, uncounted}

-- a function of the program is named as the files name it
name-of : (files : List CFile) (made : LinkedProgram) (number : ℕ) → program_of made ≡ program files → named_in (program_of made).functions number ≡ name_shown (function_name files number)
unfolding function_name
name-of files made number same = ap (λ (one : Program). named_in one.functions number) same

fault-said : (files : List CFile) (made : LinkedProgram) (number : ℕ) (kind : List ℕ) (m a : ShelfState) → program_of made ≡ program files → Said (fault_line kind (named_in (program_of made).functions number)) m a →
    Said (fault_line kind (name_shown (function_name files number))) m a
fault-said files made number kind m a same said = subst (λ name. Said (fault_line kind name) m a) (name-of files made number same) said

-- A FAULT
-- a step of a run that is the last is one of those that it may take
below-last : (before taken steps : ℕ) → taken ≡ suc before → taken ≤ steps → before < steps
below-last before taken steps last within = omega arith

faulty-so : (files : List CFile) (rows rows' : List Row) (made : LinkedProgram) (objects : List Object) (fault : CFault) (number steps taken : ℕ) →
    IsRun files steps rows rows' made objects (how.Broken (reason.Fault fault) number) taken → Tells rows → IsFaulty files steps rows rows' (fault_name fault) number
faulty-so files rows rows' made objects fault number steps taken run tells =
    let broken = run.reached tells in
    let over = broken.over in
    let steps_on : ℕ → meaning.Outcome = λ count. meaning.outcome (meaning.meaning files (units_of rows) count) in
    record {
      fault = fault;
      named = refl;
      outcome = run.meant tells;
      before = over.before;
      within = below-last over.before taken steps over.last over.within;
      goes = over.goes;
      breaks = ap steps_on (sym over.last) ∙ ap meaning.outcome over.stays ∙ run.meant tells;
      units = broken.leaves;
    }

-- A RUN
run-said : (words : List (List ℕ)) (request : RunRequest) (files : List CFile) (rows rows' : List Row) (b m a : ShelfState) (made : LinkedProgram) (objects : List Object) (end : RunEnd) (taken : ℕ) →
    Runs words request files b m → IsRun files request.steps rows rows' made objects end taken → SaysRun (program_of made).functions objects end m a →
    RunEnded words rows rows' b a (run_status objects end)
run-said words request files rows rows' b m a made objects how.Running taken runs run said =
    out_of_steps request files m runs (λ tells. let meant = run.meant tells in record { outcome = meant.0; units = meant.1 }) run.devices said
run-said words request files rows rows' b m a made objects (how.Ended ended-so) taken runs run said =
    ended request files (ending_of objects ended-so) m runs (λ tells. let meant = run.meant tells in record { outcome = meant.0; units = meant.1 }) run.devices said
run-said words request files rows rows' b m a made objects (how.Broken (reason.Fault fault) number) taken runs run said =
    faulty request files (fault_name fault) number m runs (faulty-so files rows rows' made objects fault number request.steps taken run) run.devices
    (fault-said files made number (fault_name fault) m a run.linked said)
run-said words request files rows rows' b m a made objects (how.Broken reason.Meaningless number) taken runs run said =
    faulty request files (codes "NoMeaning") number m runs (λ tells. absurd (run.meant tells)) run.devices (fault-said files made number (codes "NoMeaning") m a run.linked said)
run-said words request files rows rows' b m a made objects (how.Unbegun fault) taken runs run said =
    faulty request files (fault_name fault) 0 m runs (λ tells. absurd (run.meant tells)) run.devices (fault-said files made 0 (fault_name fault) m a run.linked said)
run-said words request files rows rows' b m a made objects (how.Failed unit) taken runs run said = device request files unit taken objects m runs run.devices said
run-said words request files rows rows' b m a made objects how.Uncounted taken runs run said = uncounted request files taken m runs run.uncounted run.devices said

pub ran : {words : List (List ℕ)} {request : RunRequest} {files : List CFile} {rows rows' : List Row} {b m a : ShelfState} {made : LinkedProgram} {objects : List Object} {end : RunEnd} {taken : ℕ} {status : ℕ} →
    Runs words request files b m → IsRun files request.steps rows rows' made objects end taken → SaysRun (program_of made).functions objects end m a → status ≡ run_status objects end → RunEnded words rows rows' b a status
ran {words} {request} {files} {rows} {rows'} {b} {m} {a} {made} {objects} {end} {taken} runs run said is =
    subst (RunEnded words rows rows' b a) (sym is) (run-said words request files rows rows' b m a made objects end taken runs run said)

-- FILES
not-loaded : (words : List (List ℕ)) (request : RunRequest) (files : List CFile) (rows : List Row) (b m a : ShelfState) (why : LoadFail) → run_of words ≡ Ok request → AreTreesRead (c_places request) files b m →
    IsNotLoaded files why → SaysUnloaded why m a → RunEnded words rows rows b a (unloaded_status why)
not-loaded words request files rows b m a loaded.NoMemory asked trees refused said = no_memory m trees.kept said refl
not-loaded words request files rows b m a (loaded.Link rule) asked trees refused said = not_linked request files rule m asked trees refused said refl

pub unloaded-so : {words : List (List ℕ)} (request : RunRequest) (files : List CFile) {rows : List Row} {b : ShelfState} (m : ShelfState) {a : ShelfState} (why : LoadFail) {status : ℕ} →
    run_of words ≡ Ok request → AreTreesRead (c_places request) files b m → IsNotLoaded files why → SaysUnloaded why m a → status ≡ unloaded_status why → RunEnded words rows rows b a status
unloaded-so {words} request files {rows} {b} m {a} why asked trees refused said is = subst (RunEnded words rows rows b a) (sym is) (not-loaded words request files rows b m a why asked trees refused said)

-- PLACES
not-read : (words : List (List ℕ)) (request : RunRequest) (rows : List Row) (b m a : ShelfState) (why : CSourceFail) → run_of words ≡ Ok request → AreTreesUnread (c_places request) b m why → SaysUnread why m a →
    RunEnded words rows rows b a (unread_status why)
not-read words request rows b m a (fail.NotThere name) words-asked away said = not_there request name m words-asked away said refl
not-read words request rows b m a (fail.Unread place) words-asked failed said = unread request place m words-asked failed said refl
not-read words request rows b m a (fail.NotC name line) words-asked refused said = not_c request name line m words-asked refused said refl
not-read words request rows b m a fail.NoMemory words-asked kept said = no_memory m kept said refl

pub unread-so : {words : List (List ℕ)} (request : RunRequest) {places : List Place} {rows : List Row} {b : ShelfState} (m : ShelfState) {a : ShelfState} (why : CSourceFail) {status : ℕ} →
    run_of words ≡ Ok request → places ≡ c_places request → AreTreesUnread places b m why → SaysUnread why m a → status ≡ unread_status why → RunEnded words rows rows b a status
unread-so {words} request {places} {rows} {b} m {a} why asked named away said is =
    subst (RunEnded words rows rows b a) (sym is) (not-read words request rows b m a why asked (subst (λ these. AreTreesUnread these b m why) named away) said)

-- WORDS
pub unasked : {words : List (List ℕ)} {rows : List Row} {b a : ShelfState} {status : ℕ} → Said no_memory_line b a → status ≡ 5 → RunEnded words rows rows b a status
unasked {words} {rows} {b} {a} said is = subst (RunEnded words rows rows b a) (sym is) (no_memory b (record { same = refl; later = le_refl b.faults }) said refl)

not-asked : (words : List (List ℕ)) (rows : List Row) (b a : ShelfState) (why : RunWordsFail) → AnswersRun words (Err why) → SaysUnasked words why b a → RunEnded words rows rows b a (unasked_status why)
not-asked words rows b a (asked.BadWord number) answers said = bad_word number answers said refl
not-asked words rows b a asked.NoMemory answers said = no_memory b (record { same = refl; later = le_refl b.faults }) said refl

pub unasked-so : {words : List (List ℕ)} {rows : List Row} {b a : ShelfState} (why : RunWordsFail) {status : ℕ} → AnswersRun words (Err why) → SaysUnasked words why b a → status ≡ unasked_status why →
    RunEnded words rows rows b a status
unasked-so {words} {rows} {b} {a} why answers said is = subst (RunEnded words rows rows b a) (sym is) (not-asked words rows b a why answers said)
