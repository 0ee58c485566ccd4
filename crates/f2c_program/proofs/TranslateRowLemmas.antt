-- What each exit status says follows from how the translation ended and from its message.
use Rattle.std.proofs.Common.{◌≡◌, ℕ, ◌<◌, Bool, true, false, List, [], ◌∷◌, ◌++◌, take, Option, Some, None, option_map, refl, ap, sym, ◌∙◌, subst, inl, inr, arith, append_assoc}
use Rattle.std.specs.Prelude.{IfSome}
use Rattle.std.specs.Bool.{Decides}
use Rattle.f2c_outside.specs.declared.shelves.Place.{Place}
use Rattle.f2c_outside.specs.declared.shelves.Place.TheVariants.{File as FileNamed}
use Rattle.f2c_outside.specs.Shelf.{ShelfState, Contents, Rose, Lacks, bytes_of, begun, added}
use Rattle.f_tree.specs.declared.names.Options.{Options}
use Rattle.f_tree.specs.declared.refusals.Refusal.{Refusal}
use Rattle.check_command.specs.source_acceptance.SourceFiles.{Source}
use Rattle.check_command.specs.source_verdict.SourceRows.{Translation, IsFirstRefusal}
use Rattle.check_command.proofs.source_verdict.FirstMentions.{mentions_take}
use Rattle.check_command.proofs.source_verdict.OneRefusal.{not_refused}
use Rattle.outcomes.specs.declared.outcome.Outcome.{Outcome}
use Rattle.outcomes.specs.declared.outcome.Outcome.TheVariants as outcome
use Rattle.outcomes.specs.Outcomes.{status_of, IsSilent}
use Rattle.outcomes.specs.Lines.{line_of, refusal_line, not_prototype_line, not_there_line, shelf_fault_line, no_memory_line}
use Rattle.outcomes.proofs.ToldLemmas.{some_at, for_some, both_then, both_mapped, gained, said-nil, both-map, not_both}
use Rattle.shelf_texts.specs.ShelfLoops.{Both, IsKept, IsFrontWritten, written}
use Rattle.shelf_texts.specs.Messages.{Said, Gained}
use Rattle.check_command.specs.source_files.SourceOnShelf.{mentions, name_of_file, files_on, HasPlaces, AreThere, source_on, IsRefused, IsMissing, IsFirstAway}
use Rattle.check_command.specs.source_files.SourceReads.{IsPlaceAmong, IsFailedAmong}
use Rattle.check_command.specs.source_files.SourceEnds.{EndedNotThere, of_place, of_included, IsOfSource}
use Rattle.check_command.proofs.source_files.SourceLemmas.{there_at, place_at}
use Rattle.translate_command.specs.TranslatedTexts.{AreTextsOf, IsTranslated}
use Rattle.translate_command.specs.WrittenTexts.{all_written, IsStoppedAt}
use Rattle.translate_command.specs.TranslateEnds.{EndedDone, EndedUnwritten, EndedRefusedSet, IsBadForm, EndedNotPrototype, EndedAway, source_away, form_away, EndedFailed, source_failed, form_failed, old_failed}
use Rattle.translate_command.specs.OldPrototypes.{AllHaveStill}
use Rattle.translate_command.specs.declared.job.Job.{Job}
use Rattle.translate_command.specs.prototype_outputs.prototypes.declared.prototype.Prototype.{Prototype}
use Rattle.translate_command.specs.prototype_outputs.prototypes.PrototypeText.{IsFile}
use Rattle.translate_command.specs.prototype_outputs.Forms.{AreFiles}
use Rattle.translate_command.proofs.prototype_outputs.FrontLemmas.{refused_is_none}
use Rattle.f2c_program.specs.TranslateRows.{TranslateEnded, NotAcceptedRow, TranslatedRow, PrototypeUnreadRow, FaultRow, HasMissing, JobLacks, TranslateRows}
use Rattle.f2c_program.specs.TranslateRows as rows

written_mapped : (place : Place) (text : List ℕ) (f : Contents → Contents) (told : Option Contents) →
    written place text (option_map f told) ≡ option_map (λ c. added place text (begun place (f c))) told
written_mapped place text f None = refl
written_mapped place text f (Some c) = refl

-- a source with texts is not refused
texts_are_not_refused : (options : Options) (source : Source) (texts : List (List ℕ)) (refusal : Refusal) → AreTextsOf options source texts → IsFirstRefusal options source refusal → ⊥
texts_are_not_refused options source texts refusal made refused = not_refused Translation options source made.set refusal made.accepted refused

-- of a source with a translation no file is missing
abbrev NoneMissing : Options → List Place → Contents → Type 0
NoneMissing options froms contents = HasMissing options froms contents → ⊥

place_there : (froms : List Place) (place : Place) (c : Contents) → HasPlaces froms c → IsPlaceAmong froms place → Lacks place c → ⊥
place_there froms place c have among lacks = place_at c among.before place among.behind (subst (λ ps. HasPlaces ps c) among.is have) lacks

name_there : (options : Options) (froms : List Place) (name : List ℕ) (c : Contents) → AreThere (mentions (files_on c froms)) c → IsMissing options froms name c → ⊥
name_there options froms name c are missing =
    let begins = mentions_take missing.count (files_on c froms) in
    let all : mentions (files_on c froms) ≡ missing.before ++ name ∷ (missing.behind ++ begins.rest) =
    begins.is ∙ (ap (λ ns. ns ++ begins.rest) missing.mentioned ∙ append_assoc missing.before (name ∷ missing.behind) begins.rest) in
    missing.lacks (there_at c missing.before name (missing.behind ++ begins.rest) (subst (λ ns. AreThere ns c) all are))

none_there_of : (options : Options) (froms : List Place) (c : Contents) → HasPlaces froms c → AreThere (mentions (files_on c froms)) c → NoneMissing options froms c
none_there_of options froms c there included (rows.lacks_place place among lacks) = place_there froms place c there among lacks
none_there_of options froms c there included (rows.lacks_included name missing) = name_there options froms name c included missing

-- nor of a job
abbrev NoneLacks : Options → Job → Contents → Type 0
NoneLacks options job contents = JobLacks options job contents → ⊥

none_of_job : (options : Options) (job : Job) (c : Contents) → NoneMissing options job.froms c → HasPlaces job.forms c → NoneLacks options job c
none_of_job options job c none forms (rows.of_source missing) = none missing
none_of_job options job c none forms (rows.of_forms place among lacks) = place_there job.forms place c forms among lacks

none_of_translated : (options : Options) (job : Job) (texts outputs : List (List ℕ)) (lists : List (List Prototype)) (c : Contents) →
    IsTranslated options job texts outputs lists c → NoneLacks options job c
none_of_translated options job texts outputs lists c made =
    none_of_job options job c (none_there_of options job.froms c made.there made.included) made.forms_there

none_of_bad : (options : Options) (job : Job) (name : List ℕ) (line : ℕ) (c : Contents) → IsBadForm options job name line c → NoneLacks options job c
none_of_bad options job name line c bad = none_of_job options job c (none_there_of options job.froms c bad.there bad.included) bad.forms_there

-- of files none is refused
file_among : (before behind : List Place) (name : List ℕ) (c : Contents) → AreFiles (files_on c (before ++ FileNamed name ∷ behind)) → IsFile (bytes_of (FileNamed name) c)
unfolding AreFiles
file_among [] behind name c are = are.0
file_among (place ∷ before) behind name c are = file_among before behind name c are.1

files_not_bad : (options : Options) (job : Job) (name : List ℕ) (line : ℕ) (c : Contents) → AreFiles (files_on c job.forms) → IsBadForm options job name line c → ⊥
files_not_bad options job name line c are bad =
    refused_is_none (bytes_of (FileNamed name) c) line bad.refused
    (file_among bad.before bad.behind name c (subst (λ ps. AreFiles (files_on c ps)) bad.is are))

-- an accepted source, with prototype files in form, which was translated
module _ (options : Options) (job : Job) (tos : List Place) (same : Bool) (b m a : ShelfState) (ended : EndedDone options job tos same b m) (said : Said [] m a) where
  abbrev Translated : Contents → Type 0
  Translated = IsTranslated options job ended.texts ended.outputs ended.lists

  at_each : (c : Contents) → b.told ≡ Some c → Translated c
  at_each c is = some_at b.told Translated c is ended.translated

  not_refused_now : (c : Contents) → b.told ≡ Some c → (refusal : Refusal) → IsRefused options job.froms refusal c → ⊥
  not_refused_now c is refusal refused =
      texts_are_not_refused options (source_on c job.froms) ended.texts refusal (at_each c is).outputs_of.made refused.first

  not_bad_now : (c : Contents) → b.told ≡ Some c → (name : List ℕ) (line : ℕ) → IsBadForm options job name line c → ⊥
  not_bad_now c is name line bad = files_not_bad options job name line c (at_each c is).forms bad

  lacks_none : (c : Contents) → b.told ≡ Some c → NoneLacks options job c
  lacks_none c is = none_of_translated options job ended.texts ended.outputs ended.lists c (at_each c is)

  row : Both b.told a.told (TranslatedRow options job tos same)
  row =
      both-map (all_written tos ended.outputs) b.told a.told (TranslatedRow options job tos same)
      (said-nil m a said ∙ ended.written)
      (λ c is. record {
        texts = ended.texts;
        outputs = ended.outputs;
        lists = ended.lists;
        translated = at_each c is;
        compared = some_at b.told (λ contents. Decides same (AllHaveStill job.olds ended.lists contents)) c is ended.compared;
        written = refl;
      })

rows_done :
    (options : Options) (job : Job) (tos : List Place) (b m a : ShelfState) → EndedDone options job tos true b m → Said [] m a → a ≡ m → TranslateRows options job tos b a 0
rows_done options job tos b m a ended said silent =
    record {
      statuses = inl refl;
      refused_only = λ is. absurd (omega arith);
      refused_where = for_some b.told _ (λ c is refusal refused. absurd (not_refused_now options job tos true b m a ended said c is refusal refused));
      bad_where = for_some b.told _ (λ c is name line bad. absurd (not_bad_now options job tos true b m a ended said c is name line bad));
      fault_or_missing = λ is. absurd (omega arith);
      translated = λ is. row options job tos true b m a ended said;
      changed = λ is. absurd (omega arith);
      quiet = λ is. ap (λ (s : ShelfState). s.faults) silent ∙ ended.quiet;
      quiet_changed = λ is. absurd (omega arith);
      complete = λ quiet. for_some b.told _ (λ c is none accepted forms. inl refl);
      complete_refused = λ quiet.
          for_some b.told _ (λ c is none refusal refused. absurd (not_refused_now options job tos true b m a ended said c is refusal refused));
      complete_bad = λ quiet. for_some b.told _ (λ c is none name line bad. absurd (not_bad_now options job tos true b m a ended said c is name line bad));
      complete_missing = λ quiet. for_some b.told _ (λ c is missing. absurd (lacks_none options job tos true b m a ended said c is missing));
      fault = λ is. absurd (omega arith);
      no_memory = λ is. absurd (omega arith);
    }

rows_changed :
    (options : Options) (job : Job) (tos : List Place) (b m a : ShelfState) → EndedDone options job tos false b m → Said [] m a → a ≡ m → TranslateRows options job tos b a 4
rows_changed options job tos b m a ended said silent =
    record {
      statuses = inr (inr (inr (inl refl)));
      refused_only = λ is. absurd (omega arith);
      refused_where = for_some b.told _ (λ c is refusal refused. absurd (not_refused_now options job tos false b m a ended said c is refusal refused));
      bad_where = for_some b.told _ (λ c is name line bad. absurd (not_bad_now options job tos false b m a ended said c is name line bad));
      fault_or_missing = λ is. absurd (omega arith);
      translated = λ is. absurd (omega arith);
      changed = λ is. row options job tos false b m a ended said;
      quiet = λ is. absurd (omega arith);
      quiet_changed = λ is. ap (λ (s : ShelfState). s.faults) silent ∙ ended.quiet;
      complete = λ quiet. for_some b.told _ (λ c is none accepted forms. inr (inl refl));
      complete_refused = λ quiet.
          for_some b.told _ (λ c is none refusal refused. absurd (not_refused_now options job tos false b m a ended said c is refusal refused));
      complete_bad = λ quiet. for_some b.told _ (λ c is none name line bad. absurd (not_bad_now options job tos false b m a ended said c is name line bad));
      complete_missing = λ quiet. for_some b.told _ (λ c is missing. absurd (lacks_none options job tos false b m a ended said c is missing));
      fault = λ is. absurd (omega arith);
      no_memory = λ is. absurd (omega arith);
    }

none_for_refused : (options : Options) (froms : List Place) (refusal : Refusal) (c : Contents) → IsRefused options froms refusal c →
    ((name : List ℕ) → IsMissing options froms name c → ⊥) → NoneMissing options froms c
none_for_refused options froms refusal c refused none (rows.lacks_place place among lacks) = place_there froms place c refused.there among lacks
none_for_refused options froms refusal c refused none (rows.lacks_included name missing) = none name missing

rows_refused :
    (options : Options) (job : Job) (tos : List Place) (refusal : Refusal) (name : Option (List ℕ)) (b m a : ShelfState)
    → EndedRefusedSet options job refusal name b m
    → Said (refusal_line name refusal) m a
    → TranslateRows options job tos b a 1
rows_refused options job tos refusal name b m a set said =
    let ended = set.refused in
    record {
      quiet = λ is. absurd (omega arith);
      quiet_changed = λ is. absurd (omega arith);
      statuses = inr (inl refl);
      refused_only = λ is.
          both_then b.told a.told (Gained (refusal_line name refusal) b.faults a.faults) (NotAcceptedRow options job b.faults a.faults)
          (gained (refusal_line name refusal) b.told b.faults m a ended.kept.same ended.kept.later said)
          (λ c d is gain.
          rows.refused (record {
            refusal = refusal;
            name = name;
            first = (some_at b.told (IsRefused options job.froms refusal) c is ended.refused).first;
            named = some_at b.told (λ contents. name ≡ name_of_file job.froms (mentions (files_on contents job.froms)) refusal.file) c is ended.named_there;
            said = gain;
          }));
      refused_where = for_some b.told _ (λ c is other refused. inl refl);
      bad_where = for_some b.told _ (λ c is other line bad. inl refl);
      fault_or_missing = λ is. absurd (omega arith);
      translated = λ is. absurd (omega arith);
      changed = λ is. absurd (omega arith);
      complete = λ quiet.
          for_some b.told _
          (λ c is none accepted forms.
          absurd (not_refused Translation options (source_on c job.froms) accepted.set refusal accepted.is
          (some_at b.told (IsRefused options job.froms refusal) c is ended.refused).first));
      complete_refused = λ quiet. for_some b.told _ (λ c is none other refused. inl refl);
      complete_bad = λ quiet. for_some b.told _ (λ c is none other line bad. inl refl);
      complete_missing = λ quiet.
          for_some b.told _
          (λ c is missing.
          absurd (none_of_job options job c
          (none_for_refused options job.froms refusal c (some_at b.told (IsRefused options job.froms refusal) c is ended.refused)
          (some_at b.told (λ contents. (n : List ℕ) → IsMissing options job.froms n contents → ⊥) c is ended.none_missing))
          (some_at b.told (HasPlaces job.forms) c is set.forms_there) missing));
      fault = λ is. absurd (omega arith);
      no_memory = λ is. absurd (omega arith);
    }

rows_not_prototype :
    (options : Options) (job : Job) (tos : List Place) (name : List ℕ) (line : ℕ) (b m a : ShelfState)
    → EndedNotPrototype options job name line b m
    → Said (not_prototype_line name line) m a
    → TranslateRows options job tos b a 1
rows_not_prototype options job tos name line b m a ended said =
    record {
      quiet = λ is. absurd (omega arith);
      quiet_changed = λ is. absurd (omega arith);
      statuses = inr (inl refl);
      refused_only = λ is.
          both_then b.told a.told (Gained (not_prototype_line name line) b.faults a.faults) (NotAcceptedRow options job b.faults a.faults)
          (gained (not_prototype_line name line) b.told b.faults m a ended.kept.same ended.kept.later said)
          (λ c d is gain.
          rows.not_prototype (record { name = name; line = line; bad = some_at b.told (IsBadForm options job name line) c is ended.bad; said = gain }));
      refused_where = for_some b.told _ (λ c is other refused. inl refl);
      bad_where = for_some b.told _ (λ c is other place bad. inl refl);
      fault_or_missing = λ is. absurd (omega arith);
      translated = λ is. absurd (omega arith);
      changed = λ is. absurd (omega arith);
      complete = λ quiet.
          for_some b.told _
          (λ c is none accepted forms. absurd (files_not_bad options job name line c forms (some_at b.told (IsBadForm options job name line) c is ended.bad)));
      complete_refused = λ quiet. for_some b.told _ (λ c is none other refused. inl refl);
      complete_bad = λ quiet. for_some b.told _ (λ c is none other place bad. inl refl);
      complete_missing = λ quiet.
          for_some b.told _ (λ c is missing. absurd (none_of_bad options job name line c (some_at b.told (IsBadForm options job name line) c is ended.bad) missing));
      fault = λ is. absurd (omega arith);
      no_memory = λ is. absurd (omega arith);
    }

-- a file that is not there: the place itself, or one that it includes
away_in : (froms : List Place) (place : Place) (c : Contents) → IsFirstAway froms place c → (options : Options) → HasMissing options froms c
away_in froms place c first options = rows.lacks_place place (record { before = first.before; behind = first.behind; is = first.is }) first.lacks

missing_in : (options : Options) (froms : List Place) (name : List ℕ) (b m : ShelfState) → EndedNotThere options froms name b m → IfSome b.told (HasMissing options froms)
missing_in options froms name b m (of_place ended) =
    for_some b.told _ (λ c is. away_in froms (FileNamed name) c (some_at b.told (IsFirstAway froms (FileNamed name)) c is ended.first) options)
missing_in options froms name b m (of_included ended) = for_some b.told _ (λ c is. rows.lacks_included name (some_at b.told (IsMissing options froms name) c is ended.missing))

kept_of : (options : Options) (froms : List Place) (name : List ℕ) (b m : ShelfState) → EndedNotThere options froms name b m → IsKept b m
kept_of options froms name b m (of_place ended) = ended.kept
kept_of options froms name b m (of_included ended) = ended.kept

not_there_row : (options : Options) (job : Job) (tos : List Place) (name : List ℕ) (b m a : ShelfState) → EndedNotThere options job.froms name b m → (c d : Contents) → b.told ≡ Some c →
    Gained (not_there_line name) b.faults a.faults c d → FaultRow options job tos b.faults a.faults c d
not_there_row options job tos name b m a (of_place ended) c d is gain =
    rows.not_there (record { place = FileNamed name; first = some_at b.told (IsFirstAway job.froms (FileNamed name)) c is ended.first; said = gain })
not_there_row options job tos name b m a (of_included ended) c d is gain =
    rows.included_not_there (record { name = name; missing = some_at b.told (IsMissing options job.froms name) c is ended.missing; said = gain })

-- where a file is missing, the source is not refused by another
rows_missing :
    (options : Options) (job : Job) (tos : List Place) (name : List ℕ) (b m a : ShelfState)
    → IsKept b m
    → IfSome b.told (JobLacks options job)
    → ((c d : Contents) → b.told ≡ Some c → Gained (not_there_line name) b.faults a.faults c d → FaultRow options job tos b.faults a.faults c d)
    → Said (not_there_line name) m a
    → TranslateRows options job tos b a 3
rows_missing options job tos name b m a kept missing fault_row said =
    record {
      quiet = λ is. absurd (omega arith);
      quiet_changed = λ is. absurd (omega arith);
      statuses = inr (inr (inl refl));
      refused_only = λ is. absurd (omega arith);
      refused_where = for_some b.told _ (λ c is refusal refused. inr (inl refl));
      bad_where = for_some b.told _ (λ c is other line bad. inr (inl refl));
      fault_or_missing = λ is. inr missing;
      translated = λ is. absurd (omega arith);
      changed = λ is. absurd (omega arith);
      complete = λ quiet. for_some b.told _ (λ c is none accepted forms. absurd (none (some_at b.told (JobLacks options job) c is missing)));
      complete_refused = λ quiet. for_some b.told _ (λ c is none refusal refused. absurd (none (some_at b.told (JobLacks options job) c is missing)));
      complete_bad = λ quiet. for_some b.told _ (λ c is none other line bad. absurd (none (some_at b.told (JobLacks options job) c is missing)));
      complete_missing = λ quiet. for_some b.told _ (λ c is its. inl refl);
      fault = λ is.
          both_then b.told a.told (Gained (not_there_line name) b.faults a.faults) (FaultRow options job tos b.faults a.faults)
          (gained (not_there_line name) b.told b.faults m a kept.same kept.later said) fault_row;
      no_memory = λ is. absurd (omega arith);
    }

rows_not_there :
    (options : Options) (job : Job) (tos : List Place) (name : List ℕ) (b m a : ShelfState)
    → EndedAway options job name b m
    → Said (not_there_line name) m a
    → TranslateRows options job tos b a 3
rows_not_there options job tos name b m a (source_away ended) said =
    rows_missing options job tos name b m a (kept_of options job.froms name b m ended)
    (for_some b.told _ (λ c is. rows.of_source (some_at b.told (HasMissing options job.froms) c is (missing_in options job.froms name b m ended))))
    (λ c d is gain. not_there_row options job tos name b m a ended c d is gain) said
rows_not_there options job tos name b m a (form_away ended) said =
    rows_missing options job tos name b m a ended.kept
    (for_some b.told _
    (λ c is. rows.of_forms (FileNamed name) ended.among (some_at b.told (IsFirstAway job.forms (FileNamed name)) c is ended.first).lacks))
    (λ c d is gain.
    rows.prototype_not_there (record { place = FileNamed name; first = some_at b.told (IsFirstAway job.forms (FileNamed name)) c is ended.first; said = gain })) said

-- a fault of the shelf
rows_fault :
    (options : Options) (job : Job) (tos : List Place) (b a : ShelfState)
    → Rose b.faults a.faults
    → Both b.told a.told (FaultRow options job tos b.faults a.faults)
    → TranslateRows options job tos b a 3
rows_fault options job tos b a rose fault_row =
    record {
      quiet = λ is. absurd (omega arith);
      quiet_changed = λ is. absurd (omega arith);
      statuses = inr (inr (inl refl));
      refused_only = λ is. absurd (omega arith);
      refused_where = for_some b.told _ (λ c is refusal refused. inr (inl refl));
      bad_where = for_some b.told _ (λ c is name line bad. inr (inl refl));
      fault_or_missing = λ is. inl rose;
      translated = λ is. absurd (omega arith);
      changed = λ is. absurd (omega arith);
      complete = λ quiet. absurd (not_both b.faults a.faults rose quiet);
      complete_refused = λ quiet. absurd (not_both b.faults a.faults rose quiet);
      complete_bad = λ quiet. absurd (not_both b.faults a.faults rose quiet);
      complete_missing = λ quiet. absurd (not_both b.faults a.faults rose quiet);
      fault = λ is. fault_row;
      no_memory = λ is. absurd (omega arith);
    }

later_rose : (line : List ℕ) (b m a : ShelfState) → Rose b.faults m.faults → Said line m a → Rose b.faults a.faults
later_rose line b m a rose said below = let last = said.later in let less : b.faults < m.faults = rose (omega arith) in omega arith

among_failed : (options : Options) (job : Job) (tos places : List Place) (place : Place) (b m a : ShelfState) → IsFailedAmong places place b m →
    ((c d : Contents) → PrototypeUnreadRow places b.faults a.faults c d → FaultRow options job tos b.faults a.faults c d) → Said (shelf_fault_line place) m a →
    TranslateRows options job tos b a 3
among_failed options job tos places place b m a failed as_row said =
    rows_fault options job tos b a (later_rose (shelf_fault_line place) b m a failed.rose said)
    (both_then b.told a.told (Gained (shelf_fault_line place) b.faults a.faults) (FaultRow options job tos b.faults a.faults)
    (gained (shelf_fault_line place) b.told b.faults m a failed.kept.same failed.kept.later said)
    (λ c d is gain.
    as_row c d (record {
      place = place;
      among = failed.among;
      rose = later_rose (shelf_fault_line place) b m a failed.rose said;
      said = gain;
    })))

rows_unread :
    (options : Options) (job : Job) (tos : List Place) (place : Place) (b m a : ShelfState)
    → EndedFailed job place b m
    → Said (shelf_fault_line place) m a
    → TranslateRows options job tos b a 3
rows_unread options job tos place b m a (source_failed ended) said =
    rows_fault options job tos b a (later_rose (shelf_fault_line place) b m a ended.rose said)
    (both_then b.told a.told (Gained (shelf_fault_line place) b.faults a.faults) (FaultRow options job tos b.faults a.faults)
    (gained (shelf_fault_line place) b.told b.faults m a ended.kept.same ended.kept.later said)
    (λ c d is gain.
    rows.unread (record {
      place = place;
      of_source = some_at b.told (λ contents. IsOfSource job.froms contents place) c is ended.of_source;
      rose = later_rose (shelf_fault_line place) b m a ended.rose said;
      said = gain;
    })))
rows_unread options job tos place b m a (form_failed failed) said = among_failed options job tos job.forms place b m a failed (λ c d row. rows.prototype_unread row) said
rows_unread options job tos place b m a (old_failed failed) said = among_failed options job tos job.olds place b m a failed (λ c d row. rows.old_unread row) said

unwritten_row :
    (options : Options) (job : Job) (tos : List Place) (texts outputs : List (List ℕ)) (lists : List (List Prototype)) (number : ℕ) (b m a : ShelfState) (told : Option Contents)
    → IfSome b.told (IsTranslated options job texts outputs lists)
    → (stopped : IsStoppedAt tos outputs number b m)
    → Said (shelf_fault_line stopped.place) m a
    → told ≡ option_map (all_written (take number tos) (take number outputs)) b.told
    → IsFrontWritten stopped.place stopped.text told m.told
    → Both b.told a.told (FaultRow options job tos b.faults a.faults)
unwritten_row options job tos texts outputs lists number b m a told made stopped said is (inl same) =
    both_mapped (all_written (take number tos) (take number outputs)) b.told a.told (Gained (shelf_fault_line stopped.place) b.faults a.faults)
    (FaultRow options job tos b.faults a.faults)
    (gained (shelf_fault_line stopped.place) (option_map (all_written (take number tos) (take number outputs)) b.told) b.faults m a (same ∙ is) stopped.later said)
    (λ c d at gain.
    rows.unwritten (record {
      texts = texts;
      outputs = outputs;
      lists = lists;
      translated = some_at b.told (IsTranslated options job texts outputs lists) c at made;
      number = number;
      to = stopped.place;
      text = stopped.text;
      to_is = stopped.place_is;
      text_is = stopped.text_is;
      middle = all_written (take number tos) (take number outputs) c;
      front = inl refl;
      rose = later_rose (shelf_fault_line stopped.place) b m a stopped.rose said;
      said = gain;
    }))
unwritten_row options job tos texts outputs lists number b m a told made stopped said is (inr part) =
    both_mapped (λ c. added stopped.place part.0 (begun stopped.place (all_written (take number tos) (take number outputs) c))) b.told a.told
    (Gained (shelf_fault_line stopped.place) b.faults a.faults) (FaultRow options job tos b.faults a.faults)
    (gained (shelf_fault_line stopped.place) (option_map (λ c. added stopped.place part.0 (begun stopped.place (all_written (take number tos) (take number outputs) c))) b.told) b.faults m a
    (part.2 ∙ (ap (written stopped.place part.0) is ∙ written_mapped stopped.place part.0 (all_written (take number tos) (take number outputs)) b.told)) stopped.later said)
    (λ c d at gain.
    rows.unwritten (record {
      texts = texts;
      outputs = outputs;
      lists = lists;
      translated = some_at b.told (IsTranslated options job texts outputs lists) c at made;
      number = number;
      to = stopped.place;
      text = stopped.text;
      to_is = stopped.place_is;
      text_is = stopped.text_is;
      middle = added stopped.place part.0 (begun stopped.place (all_written (take number tos) (take number outputs) c));
      front = inr (part.0, part.1, refl);
      rose = later_rose (shelf_fault_line stopped.place) b m a stopped.rose said;
      said = gain;
    }))

rows_unwritten :
    (options : Options) (job : Job) (tos : List Place) (place : Place) (b m a : ShelfState)
    → EndedUnwritten options job tos place b m
    → Said (shelf_fault_line place) m a
    → TranslateRows options job tos b a 3
rows_unwritten options job tos place b m a ended said =
    let stopped = ended.unwritten.stopped in
    rows_fault options job tos b a (later_rose (shelf_fault_line place) b m a stopped.rose said)
    (unwritten_row options job tos ended.texts ended.outputs ended.lists ended.unwritten.number b m a _ ended.translated stopped
    (subst (λ (p : Place). Said (shelf_fault_line p) m a) (sym ended.unwritten.named) said) refl stopped.front)

rows_no_memory :
    (options : Options) (job : Job) (tos : List Place) (b m a : ShelfState) → IsKept b m → Said no_memory_line m a → TranslateRows options job tos b a 5
rows_no_memory options job tos b m a kept said =
    record {
      quiet = λ is. absurd (omega arith);
      quiet_changed = λ is. absurd (omega arith);
      statuses = inr (inr (inr (inr refl)));
      refused_only = λ is. absurd (omega arith);
      refused_where = for_some b.told _ (λ c is refusal refused. inr (inr refl));
      bad_where = for_some b.told _ (λ c is name line bad. inr (inr refl));
      fault_or_missing = λ is. absurd (omega arith);
      translated = λ is. absurd (omega arith);
      changed = λ is. absurd (omega arith);
      complete = λ quiet. for_some b.told _ (λ c is there accepted forms. inr (inr refl));
      complete_refused = λ quiet. for_some b.told _ (λ c is none refusal refused. inr refl);
      complete_bad = λ quiet. for_some b.told _ (λ c is none name line bad. inr refl);
      complete_missing = λ quiet. for_some b.told _ (λ c is missing. inr refl);
      fault = λ is. absurd (omega arith);
      no_memory = λ is. gained no_memory_line b.told b.faults m a kept.same kept.later said;
    }

pub rows_translate :
    (options : Options) (words : List (List ℕ)) (job : Job) (tos : List Place) (b m a : ShelfState) (ended : Outcome)
    → TranslateEnded options job tos b m ended
    → Said (line_of words ended) m a
    → (IsSilent ended → a ≡ m)
    → TranslateRows options job tos b a (status_of ended)
rows_translate options words job tos b m a outcome.Done ran said silent = rows_done options job tos b m a ran said (silent tt)
rows_translate options words job tos b m a outcome.Changed ran said silent = rows_changed options job tos b m a ran said (silent tt)
rows_translate options words job tos b m a (outcome.Refused refusal name) ran said silent = rows_refused options job tos refusal name b m a ran said
rows_translate options words job tos b m a (outcome.NotPrototype name line) ran said silent = rows_not_prototype options job tos name line b m a ran said
rows_translate options words job tos b m a outcome.Disagree ran said silent = absurd ran
rows_translate options words job tos b m a (outcome.BadWord number) ran said silent = absurd ran
rows_translate options words job tos b m a (outcome.NoFreeName number) ran said silent = absurd ran
rows_translate options words job tos b m a (outcome.NotThere name) ran said silent = rows_not_there options job tos name b m a ran said
rows_translate options words job tos b m a (outcome.Unread place) ran said silent = rows_unread options job tos place b m a ran said
rows_translate options words job tos b m a (outcome.Unwritten place) ran said silent = rows_unwritten options job tos place b m a ran said
rows_translate options words job tos b m a outcome.NoMemory ran said silent = rows_no_memory options job tos b m a ran said
