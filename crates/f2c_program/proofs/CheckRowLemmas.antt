-- What each exit status says follows from how a check ended and from its message.
use Rattle.std.proofs.Common.{◌≡◌, ℕ, ◌<◌, List, [], ◌∷◌, Option, Some, None, option_map, refl, ap, sym, ◌∙◌, subst, inl, inr, arith}
use Rattle.std.specs.Prelude.{◌⊎◌, IfSome}
use Rattle.std.proofs.lemmas.List.{append-nil}
use Rattle.f2c_outside.specs.declared.shelves.Place.{Place}
use Rattle.f2c_outside.specs.declared.shelves.Place.TheVariants.{Output, File as FileNamed}
use Rattle.f2c_outside.specs.Shelf.{ShelfState, Contents, Rose, added}
use Rattle.f_tree.specs.declared.names.Options.{Options}
use Rattle.f_tree.specs.declared.refusals.Refusal.{Refusal}
use Rattle.check_command.specs.call_shapes.declared.findings.Finding.{Finding}
use Rattle.check_command.specs.call_lines.FindingLines.{finding_lines}
use Rattle.check_command.specs.source_verdict.SourceRows.{Checking}
use Rattle.outcomes.specs.declared.outcome.Outcome.{Outcome}
use Rattle.outcomes.specs.declared.outcome.Outcome.TheVariants as outcome
use Rattle.outcomes.specs.Outcomes.{status_of, IsSilent}
use Rattle.outcomes.specs.Lines.{line_of, refusal_line, not_prototype_line, not_there_line, shelf_fault_line, no_memory_line}
use Rattle.outcomes.proofs.ToldLemmas.{some_at, for_some, both_then, both_mapped, gained, said-nil, both-map}
use Rattle.shelf_texts.specs.ShelfLoops.{Both, IsKept, IsFront, IsFrontWritten, written}
use Rattle.shelf_texts.specs.Messages.{Said, Gained}
use Rattle.check_command.specs.source_files.SourceOnShelf.{mentions, name_of_file, files_on, source_on, IsRefusedFor, IsMissing, IsFirstAway}
use Rattle.check_command.specs.source_files.SourceEnds.{EndedRefusedFor, of_place, of_included, IsOfSource}
use Rattle.check_command.specs.declared.checked.Checked.{Checked}
use Rattle.check_command.specs.declared.checked.Checked.TheVariants.{Agreeing, Disagreeing}
use Rattle.check_command.specs.Listing.{answer_of}
use Rattle.check_command.specs.CheckEnds.{AreFoundOn, IsBadOn, EndedListed, EndedUnlisted, EndedNotPrototype, EndedAway, source_away, prototype_away, EndedFailed, source_failed, prototype_failed}
use Rattle.checked_sources.specs.CheckedSources.{EachCheckedSourceRuns}
use Rattle.f2c_program.specs.TranslateRows.{HasMissing}
use Rattle.f2c_program.specs.TranslateRows as rows
use Rattle.f2c_program.specs.CheckRows.{CheckEnded, ListedRow, CheckRefusedRow, UnlistedRow, CheckFaultRow, LacksFile, RunsAgree, CheckRows}
use Rattle.f2c_program.specs.CheckRows as checks

-- STATUSES 0 AND 11
written_on : (text : List ℕ) (told : Option Contents) → written Output text told ≡ option_map (λ c. added Output text c) told
written_on text None = refl
written_on text (Some c) = refl

listed_row : (options : Options) (froms prototypes : List Place) (checked : Checked) (b m a : ShelfState) → EndedListed options froms prototypes checked b m → Said [] m a →
    Both b.told a.told (ListedRow options froms prototypes checked)
listed_row options froms prototypes checked b m a ended said =
    both-map (λ c. added Output (finding_lines ended.names ended.findings) c) b.told a.told (ListedRow options froms prototypes checked)
    (said-nil m a said ∙ (ended.written.whole ∙ written_on (finding_lines ended.names ended.findings) b.told))
    (λ c is. record {
      names = ended.names;
      findings = ended.findings;
      found = some_at b.told (AreFoundOn options froms prototypes ended.names ended.findings) c is ended.found.found_on;
      answer = ended.answer;
      listed = refl;
    })

-- no call is found, so no run has one that differs
none_of : (findings : List Finding) → Agreeing ≡ answer_of findings → findings ≡ []
unfolding answer_of
none_of [] is = refl
none_of (finding ∷ findings) is = let clash : Agreeing ≡ Disagreeing = is in absurd (cc)

runs_at : EachCheckedSourceRuns → (options : Options) (froms prototypes : List Place) (names : List (List ℕ)) (findings : List Finding) (c : Contents) →
    Agreeing ≡ answer_of findings → AreFoundOn options froms prototypes names findings c → RunsAgree options froms c
runs_at law options froms prototypes names findings c answer on = record {
  set = on.found.set;
  accepted = on.found.accepted;
  agree = λ g units n setting.
      law options (source_on c froms) on.found.set on.found.shapes g units n on.found.accepted
      (sym on.found.findings_are ∙ none_of findings answer) setting;
}

runs_of : EachCheckedSourceRuns → (options : Options) (froms prototypes : List Place) (b m : ShelfState) → EndedListed options froms prototypes Agreeing b m →
    IfSome b.told (RunsAgree options froms)
runs_of law options froms prototypes b m ended =
    for_some b.told (RunsAgree options froms) (λ c is.
    runs_at law options froms prototypes ended.names ended.findings c ended.answer
    (some_at b.told (AreFoundOn options froms prototypes ended.names ended.findings) c is ended.found.found_on))

rows_agreeing : EachCheckedSourceRuns → (options : Options) (froms prototypes : List Place) (b m a : ShelfState) → EndedListed options froms prototypes Agreeing b m → Said [] m a → a ≡ m →
    CheckRows options froms prototypes b a 0
rows_agreeing law options froms prototypes b m a ended said silent = record {
  statuses = inl refl;
  agreeing = λ is. listed_row options froms prototypes Agreeing b m a ended said;
  runs_agree = λ is. runs_of law options froms prototypes b m ended;
  disagreeing = λ is. absurd (omega arith);
  quiet = λ is. ap (λ (s : ShelfState). s.faults) silent ∙ ended.written.quiet;
  refused = λ is. absurd (omega arith);
  fault_or_missing = λ is. absurd (omega arith);
  fault = λ is. absurd (omega arith);
  no_memory = λ is. absurd (omega arith);
}

rows_disagreeing : (options : Options) (froms prototypes : List Place) (b m a : ShelfState) → EndedListed options froms prototypes Disagreeing b m → Said [] m a → a ≡ m →
    CheckRows options froms prototypes b a 11
rows_disagreeing options froms prototypes b m a ended said silent = record {
  statuses = inr (inr (inr (inr refl)));
  agreeing = λ is. absurd (omega arith);
  runs_agree = λ is. absurd (omega arith);
  disagreeing = λ is. listed_row options froms prototypes Disagreeing b m a ended said;
  quiet = λ is. ap (λ (s : ShelfState). s.faults) silent ∙ ended.written.quiet;
  refused = λ is. absurd (omega arith);
  fault_or_missing = λ is. absurd (omega arith);
  fault = λ is. absurd (omega arith);
  no_memory = λ is. absurd (omega arith);
}

-- STATUS 1
not_one : {A : Type 0} (status : ℕ) → status ≡ 1 → (status ≡ 0) ⊎ (status ≡ 11) → A
not_one status is (inl none) = absurd (omega (arith, is, none))
not_one status is (inr eleven) = absurd (omega (arith, is, eleven))

rows_refused_by : (options : Options) (froms prototypes : List Place) (b a : ShelfState) → Both b.told a.told (CheckRefusedRow options froms prototypes b.faults a.faults) →
    CheckRows options froms prototypes b a 1
rows_refused_by options froms prototypes b a row = record {
  statuses = inr (inl refl);
  agreeing = λ is. absurd (omega arith);
  runs_agree = λ is. absurd (omega arith);
  disagreeing = λ is. absurd (omega arith);
  quiet = λ is. not_one 1 refl is;
  refused = λ is. row;
  fault_or_missing = λ is. absurd (omega arith);
  fault = λ is. absurd (omega arith);
  no_memory = λ is. absurd (omega arith);
}

rows_refused : (options : Options) (froms prototypes : List Place) (refusal : Refusal) (name : Option (List ℕ)) (b m a : ShelfState) →
    EndedRefusedFor Checking options froms refusal name b m → Said (refusal_line name refusal) m a → CheckRows options froms prototypes b a 1
rows_refused options froms prototypes refusal name b m a ended said =
    rows_refused_by options froms prototypes b a
    (both_then b.told a.told (Gained (refusal_line name refusal) b.faults a.faults) (CheckRefusedRow options froms prototypes b.faults a.faults)
    (gained (refusal_line name refusal) b.told b.faults m a ended.kept.same ended.kept.later said)
    (λ c d is gain.
    checks.refused (record {
      refusal = refusal;
      name = name;
      first = some_at b.told (IsRefusedFor Checking options froms refusal) c is ended.refused;
      named = some_at b.told (λ contents. name ≡ name_of_file froms (mentions (files_on contents froms)) refusal.file) c is ended.named_there;
      said = gain;
    })))

rows_not_prototype : (options : Options) (froms prototypes : List Place) (name : List ℕ) (line : ℕ) (b m a : ShelfState) →
    EndedNotPrototype options froms prototypes name line b m → Said (not_prototype_line name line) m a → CheckRows options froms prototypes b a 1
rows_not_prototype options froms prototypes name line b m a ended said =
    rows_refused_by options froms prototypes b a
    (both_then b.told a.told (Gained (not_prototype_line name line) b.faults a.faults) (CheckRefusedRow options froms prototypes b.faults a.faults)
    (gained (not_prototype_line name line) b.told b.faults m a ended.kept.same ended.kept.later said)
    (λ c d is gain.
    checks.not_prototype (record {
      name = name;
      line = line;
      bad = some_at b.told (IsBadOn options froms prototypes name line) c is ended.bad;
      said = gain;
    })))

-- STATUS 3
not_three : {A : Type 0} (status : ℕ) → status ≡ 3 → (status ≡ 0) ⊎ (status ≡ 11) → A
not_three status is (inl none) = absurd (omega (arith, is, none))
not_three status is (inr eleven) = absurd (omega (arith, is, eleven))

rows_fault : (options : Options) (froms prototypes : List Place) (b a : ShelfState) → Rose b.faults a.faults ⊎ IfSome b.told (LacksFile options froms prototypes) →
    Both b.told a.told (CheckFaultRow options froms prototypes b.faults a.faults) → CheckRows options froms prototypes b a 3
rows_fault options froms prototypes b a why row = record {
  statuses = inr (inr (inl refl));
  agreeing = λ is. absurd (omega arith);
  runs_agree = λ is. absurd (omega arith);
  disagreeing = λ is. absurd (omega arith);
  quiet = λ is. not_three 3 refl is;
  refused = λ is. absurd (omega arith);
  fault_or_missing = λ is. why;
  fault = λ is. row;
  no_memory = λ is. absurd (omega arith);
}

-- a file that is not there: a place of the source, one that it includes, or a prototype file
rows_away : (options : Options) (froms prototypes : List Place) (name : List ℕ) (b m a : ShelfState) → EndedAway options froms prototypes name b m →
    Said (not_there_line name) m a → CheckRows options froms prototypes b a 3
rows_away options froms prototypes name b m a (source_away (of_place ended)) said =
    rows_fault options froms prototypes b a
    (inr (for_some b.told _
    (λ c is.
    let first = some_at b.told (IsFirstAway froms (FileNamed name)) c is ended.first in
    checks.of_source (rows.lacks_place (FileNamed name) (record { before = first.before; behind = first.behind; is = first.is }) first.lacks))))
    (both_then b.told a.told (Gained (not_there_line name) b.faults a.faults) (CheckFaultRow options froms prototypes b.faults a.faults)
    (gained (not_there_line name) b.told b.faults m a ended.kept.same ended.kept.later said)
    (λ c d is gain.
    checks.not_there (record { place = FileNamed name; first = some_at b.told (IsFirstAway froms (FileNamed name)) c is ended.first; said = gain })))
rows_away options froms prototypes name b m a (source_away (of_included ended)) said =
    rows_fault options froms prototypes b a
    (inr (for_some b.told _ (λ c is. checks.of_source (rows.lacks_included name (some_at b.told (IsMissing options froms name) c is ended.missing)))))
    (both_then b.told a.told (Gained (not_there_line name) b.faults a.faults) (CheckFaultRow options froms prototypes b.faults a.faults)
    (gained (not_there_line name) b.told b.faults m a ended.kept.same ended.kept.later said)
    (λ c d is gain.
    checks.included_not_there (record { name = name; missing = some_at b.told (IsMissing options froms name) c is ended.missing; said = gain })))
rows_away options froms prototypes name b m a (prototype_away ended) said =
    rows_fault options froms prototypes b a
    (inr (for_some b.told _
    (λ c is.
    let first = some_at b.told (IsFirstAway prototypes (FileNamed name)) c is ended.first in
    checks.of_prototypes (FileNamed name) (record { before = first.before; behind = first.behind; is = first.is }) first.lacks)))
    (both_then b.told a.told (Gained (not_there_line name) b.faults a.faults) (CheckFaultRow options froms prototypes b.faults a.faults)
    (gained (not_there_line name) b.told b.faults m a ended.kept.same ended.kept.later said)
    (λ c d is gain.
    checks.prototype_not_there (record { place = FileNamed name; first = some_at b.told (IsFirstAway prototypes (FileNamed name)) c is ended.first; said = gain })))

-- reading that failed
rose_with : (b m a : ShelfState) (line : List ℕ) → Rose b.faults m.faults → Said line m a → Rose b.faults a.faults
rose_with b m a line rose said below = let last = said.later in let less : b.faults < m.faults = rose (omega (arith, last, below)) in omega (arith, last, less)

rows_failed : (options : Options) (froms prototypes : List Place) (place : Place) (b m a : ShelfState) → EndedFailed froms prototypes place b m →
    Said (shelf_fault_line place) m a → CheckRows options froms prototypes b a 3
rows_failed options froms prototypes place b m a (source_failed ended) said =
    rows_fault options froms prototypes b a (inl (rose_with b m a (shelf_fault_line place) ended.rose said))
    (both_then b.told a.told (Gained (shelf_fault_line place) b.faults a.faults) (CheckFaultRow options froms prototypes b.faults a.faults)
    (gained (shelf_fault_line place) b.told b.faults m a ended.kept.same ended.kept.later said)
    (λ c d is gain.
    checks.unread (record {
      place = place;
      of_source = some_at b.told (λ contents. IsOfSource froms contents place) c is ended.of_source;
      rose = rose_with b m a (shelf_fault_line place) ended.rose said;
      said = gain;
    })))
rows_failed options froms prototypes place b m a (prototype_failed ended) said =
    rows_fault options froms prototypes b a (inl (rose_with b m a (shelf_fault_line place) ended.rose said))
    (both_then b.told a.told (Gained (shelf_fault_line place) b.faults a.faults) (CheckFaultRow options froms prototypes b.faults a.faults)
    (gained (shelf_fault_line place) b.told b.faults m a ended.kept.same ended.kept.later said)
    (λ c d is gain.
    checks.prototype_unread (record {
      place = place;
      among = ended.among;
      rose = rose_with b m a (shelf_fault_line place) ended.rose said;
      said = gain;
    })))

-- writing that failed
nothing_added : (c : Contents) → c ≡ added Output [] c
nothing_added c = ap (λ text. record c { output = text }) (sym (append-nil c.output))

unchanged : (told : Option Contents) → told ≡ option_map (λ c. added Output [] c) told
unchanged None = refl
unchanged (Some c) = ap Some (nothing_added c)

unlisted_row : (options : Options) (froms prototypes : List Place) (b m a : ShelfState) (ended : EndedUnlisted options froms prototypes Output b m) (part : List ℕ) →
    IsFront part (finding_lines ended.names ended.findings) → m.told ≡ option_map (λ c. added Output part c) b.told → Said (shelf_fault_line Output) m a →
    Both b.told a.told (CheckFaultRow options froms prototypes b.faults a.faults)
unlisted_row options froms prototypes b m a ended part front is said =
    both_mapped (λ c. added Output part c) b.told a.told (Gained (shelf_fault_line Output) b.faults a.faults)
    (CheckFaultRow options froms prototypes b.faults a.faults)
    (gained (shelf_fault_line Output) (option_map (λ c. added Output part c) b.told) b.faults m a is ended.unwritten.later said)
    (λ c d at gain.
    checks.unwritten (record {
      names = ended.names;
      findings = ended.findings;
      found = some_at b.told (AreFoundOn options froms prototypes ended.names ended.findings) c at ended.found.found_on;
      part = part;
      front = front;
      rose = rose_with b m a (shelf_fault_line Output) ended.unwritten.rose said;
      said = gain;
    }))

unlisted_by : (options : Options) (froms prototypes : List Place) (b m a : ShelfState) (ended : EndedUnlisted options froms prototypes Output b m) →
    IsFrontWritten Output (finding_lines ended.names ended.findings) b.told m.told → Said (shelf_fault_line Output) m a →
    Both b.told a.told (CheckFaultRow options froms prototypes b.faults a.faults)
unlisted_by options froms prototypes b m a ended (inl same) said =
    unlisted_row options froms prototypes b m a ended [] (record { rest = finding_lines ended.names ended.findings; is = refl }) (same ∙ unchanged b.told) said
unlisted_by options froms prototypes b m a ended (inr part) said =
    unlisted_row options froms prototypes b m a ended part.0 part.1 (part.2 ∙ written_on part.0 b.told) said

rows_unlisted : (options : Options) (froms prototypes : List Place) (b m a : ShelfState) → EndedUnlisted options froms prototypes Output b m →
    Said (shelf_fault_line Output) m a → CheckRows options froms prototypes b a 3
rows_unlisted options froms prototypes b m a ended said =
    rows_fault options froms prototypes b a (inl (rose_with b m a (shelf_fault_line Output) ended.unwritten.rose said))
    (unlisted_by options froms prototypes b m a ended ended.unwritten.front said)

rows_unwritten : (options : Options) (froms prototypes : List Place) (place : Place) (b m a : ShelfState) → EndedUnlisted options froms prototypes place b m →
    Said (shelf_fault_line place) m a → CheckRows options froms prototypes b a 3
rows_unwritten options froms prototypes place b m a ended said =
    rows_unlisted options froms prototypes b m a (subst (λ p. EndedUnlisted options froms prototypes p b m) ended.named ended)
    (subst (λ p. Said (shelf_fault_line p) m a) ended.named said)

-- STATUS 5
not_five : {A : Type 0} (status : ℕ) → status ≡ 5 → (status ≡ 0) ⊎ (status ≡ 11) → A
not_five status is (inl none) = absurd (omega (arith, is, none))
not_five status is (inr eleven) = absurd (omega (arith, is, eleven))

rows_no_memory : (options : Options) (froms prototypes : List Place) (b m a : ShelfState) → IsKept b m → Said no_memory_line m a →
    CheckRows options froms prototypes b a 5
rows_no_memory options froms prototypes b m a kept said = record {
  statuses = inr (inr (inr (inl refl)));
  agreeing = λ is. absurd (omega arith);
  runs_agree = λ is. absurd (omega arith);
  disagreeing = λ is. absurd (omega arith);
  quiet = λ is. not_five 5 refl is;
  refused = λ is. absurd (omega arith);
  fault_or_missing = λ is. absurd (omega arith);
  fault = λ is. absurd (omega arith);
  no_memory = λ is. gained no_memory_line b.told b.faults m a kept.same kept.later said;
}

-- EACH OUTCOME
pub rows_check : EachCheckedSourceRuns → (options : Options) (words : List (List ℕ)) (froms prototypes : List Place) (b m a : ShelfState) (ended : Outcome)
    → CheckEnded options froms prototypes b m ended → Said (line_of words ended) m a → (IsSilent ended → a ≡ m)
    → CheckRows options froms prototypes b a (status_of ended)
rows_check law options words froms prototypes b m a outcome.Done ran said silent =
    rows_agreeing law options froms prototypes b m a ran said (silent tt)
rows_check law options words froms prototypes b m a outcome.Disagree ran said silent = rows_disagreeing options froms prototypes b m a ran said (silent tt)
rows_check law options words froms prototypes b m a (outcome.Refused refusal name) ran said silent = rows_refused options froms prototypes refusal name b m a ran said
rows_check law options words froms prototypes b m a (outcome.NotPrototype name line) ran said silent = rows_not_prototype options froms prototypes name line b m a ran said
rows_check law options words froms prototypes b m a outcome.Changed ran said silent = absurd ran
rows_check law options words froms prototypes b m a (outcome.BadWord number) ran said silent = absurd ran
rows_check law options words froms prototypes b m a (outcome.NotThere name) ran said silent = rows_away options froms prototypes name b m a ran said
rows_check law options words froms prototypes b m a (outcome.Unread place) ran said silent = rows_failed options froms prototypes place b m a ran said
rows_check law options words froms prototypes b m a (outcome.Unwritten place) ran said silent = rows_unwritten options froms prototypes place b m a ran said
rows_check law options words froms prototypes b m a (outcome.NoFreeName number) ran said silent = absurd ran
rows_check law options words froms prototypes b m a outcome.NoMemory ran said silent = rows_no_memory options froms prototypes b m a ran said
