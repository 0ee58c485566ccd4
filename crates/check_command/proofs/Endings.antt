-- How a check ends, from what was read of its source, what the judge answered, and what was read of the prototype files.
use Rattle.std.specs.Prelude.{◌≡◌, ℕ, List, take, drop, suc, Result, Ok, Err, IfSome, IsErrAnd}
use Rattle.std.proofs.Common.{refl, sym, ap, subst, ◌∙◌, arith}
use Rattle.f2c_outside.specs.declared.shelves.Place.{Place}
use Rattle.f2c_outside.specs.declared.shelves.Place.TheVariants.{File as FileNamed}
use Rattle.f2c_outside.specs.Shelf.{ShelfState, Contents}
use Rattle.f_tree.specs.declared.names.Options.{Options}
use Rattle.f_tree.specs.declared.refusals.Fail.{Fail}
use Rattle.f_tree.specs.declared.refusals.Fail.TheVariants as judge_fail
use Rattle.f_tree.specs.declared.refusals.Refusal.{Refusal}
use Rattle.f_tree.specs.declared.units.File.{File}
use Rattle.f_tree.specs.declared.units.FileSet.{FileSet}
use Rattle.call_shapes.specs.declared.shapes.NamedShape.{NamedShape}
use Rattle.call_shapes.specs.Disagreements.{disagreeing}
use Rattle.source_files.specs.source_verdict.SourceRows.{Checking, IsAcceptedFor}
use Rattle.source_files.specs.source_verdict.Fronts.{IsFirstOfAllFor}
use Rattle.source_files.specs.source_reader.SourceReading.{entries}
use Rattle.source_files.specs.source_reader.Sources.{source_of}
use Rattle.source_judge.specs.JudgedSource.{IsSourceJudged}
use Rattle.shelf_texts.specs.ShelfLoops.{IsKept, IsWritten, IsUnwritten, IsFrontWritten, written}
use Rattle.source_files.specs.declared.failing.SourceFail.{SourceFail}
use Rattle.source_files.specs.declared.failing.SourceFail.TheVariants as source_fail
use Rattle.source_files.specs.declared.sources.SourceRead.{SourceRead}
use Rattle.source_files.specs.SourceOnShelf.{IsFirstAway}
use Rattle.source_files.specs.SourceReads.{HasFronts, IsAwayAmong, IsFailedAmong}
use Rattle.source_files.specs.SourceEnds.{IsReadFrom, IsUnreadFrom}
use Rattle.source_files.proofs.ListLemmas.{both_told}
use Rattle.source_files.proofs.PlaceLemmas.{kept_kept, kept_as_it_is, rose_later}
use Rattle.source_files.proofs.EndLemmas.{IsWholeOn, refused_from, accepted_from}
use Rattle.check_command.specs.declared.checked.Checked.{Checked}
use Rattle.check_command.specs.declared.failing.CheckFail.{CheckFail}
use Rattle.check_command.specs.declared.failing.CheckFail.TheVariants as fail
use Rattle.check_command.specs.Fails.{IsFailOfReading}
use Rattle.check_command.specs.PrototypeFiles.{HaveShapes, IsFirstBad, ArePrototypesRead, IsBadAmong, ArePrototypesUnread}
use Rattle.check_command.specs.Listing.{file_names, AreListed}
use Rattle.check_command.specs.CheckSteps.{SetChecked, listed, unread, IsRefusedIn, IsNotJudged, SourceChecked, judged, refused, no_memory}
use Rattle.check_command.specs.CheckEnds.{AreFoundOn, EndedFound, IsBadOn, EndedNotPrototype, source_away, prototype_away, source_failed, prototype_failed, CheckEnded}
use Rattle.prototype_outputs.proofs.FrontLemmas.{most_is}
use Rattle.check_command.proofs.ShelfLemmas.{shapes_on, parted, shapes_before, refused_on_shelf}

-- WRITING AND READING, from the shelf as it was before
written_same : (place : Place) (text : List ℕ) (b k a : ShelfState) → IsKept b k → k.faults ≡ b.faults → IsWritten place text k a → IsWritten place text b a
written_same place text b k a kept quiet wrote = record { quiet = wrote.quiet ∙ quiet; whole = wrote.whole ∙ ap (written place text) kept.same }

unwritten_same : (place : Place) (text : List ℕ) (b k a : ShelfState) → IsKept b k → IsUnwritten place text k a → IsUnwritten place text b a
unwritten_same place text b k a kept stopped = record {
  rose = rose_later b k a kept stopped.rose;
  later = let one = kept.later in let two = stopped.later in omega (arith, one, two);
  front = subst (λ told. IsFrontWritten place text told a.told) kept.same stopped.front;
}

away_same : (places : List Place) (name : List ℕ) (b k a : ShelfState) → IsKept b k → k.faults ≡ b.faults → IsAwayAmong places name k a → IsAwayAmong places name b a
away_same places name b k a kept quiet away = record {
  kept = kept_kept b k a kept away.kept;
  quiet = away.quiet ∙ quiet;
  among = away.among;
  first = subst (λ told. IfSome told (IsFirstAway places (FileNamed name))) kept.same away.first;
}

failed_same : (places : List Place) (place : Place) (b k a : ShelfState) → IsKept b k → IsFailedAmong places place k a → IsFailedAmong places place b a
failed_same places place b k a kept failed =
    record { kept = kept_kept b k a kept failed.kept; among = failed.among; rose = rose_later b k a kept failed.rose }

-- A SET, where its source is the one on the shelf
module _ (options : Options) (froms prototypes : List Place) (files names included : List (List ℕ)) (set : FileSet)
    (accepted : IsAcceptedFor Checking options (source_of files names included) set) (c : Contents) (whole : IsWholeOn froms files names included c)
    (texts : List (List ℕ)) (fronts : HasFronts 16777217 prototypes texts c) where
  found_at : (shapes : List NamedShape) → HaveShapes texts shapes →
      AreFoundOn options froms prototypes (file_names froms names) (disagreeing set.files shapes) c
  found_at shapes have = record {
    there = whole.there;
    included = whole.included_there;
    prototypes_there = fronts.there;
    names_are = ap (file_names froms) whole.names_are;
    found = record {
      set = set;
      accepted = subst (λ s. IsAcceptedFor Checking options s set) whole.is_source accepted;
      shapes = shapes;
      have = shapes_on 16777217 c prototypes texts shapes most_is fronts.fronts have;
      findings_are = refl;
    };
  }

  bad_at : (name : List ℕ) (line : ℕ) → IsFirstBad prototypes texts name line → IsBadOn options froms prototypes name line c
  bad_at name line bad = record {
    there = whole.there;
    included = whole.included_there;
    set = set;
    accepted = subst (λ s. IsAcceptedFor Checking options s set) whole.is_source accepted;
    prototypes_there = fronts.there;
    before = take bad.number prototypes;
    behind = drop (suc bad.number) prototypes;
    is = parted prototypes bad.number (FileNamed name) bad.place_is;
    shapes = bad.shapes;
    others = shapes_before 16777217 c prototypes bad.number texts bad.shapes most_is fronts.fronts bad.before;
    refused = refused_on_shelf 16777217 c prototypes name line texts most_is fronts.fronts bad;
  }

-- A SOURCE that was read
module _ (options : Options) (froms prototypes : List Place) (read : SourceRead) (b m a : ShelfState) (its : IsReadFrom options froms read b m) where
  abbrev names : List (List ℕ)
  names = read.named.names

  abbrev Accepted : FileSet → Type 0
  Accepted set = IsAcceptedFor Checking options (source_of its.files names read.included) set

  found : (set : FileSet) → Accepted set → (shapes : List NamedShape) (k : ShelfState) → ArePrototypesRead prototypes shapes m k →
      EndedFound options froms prototypes (file_names froms names) (disagreeing set.files shapes) b
  found set accepted shapes k seen = record {
    source = source_of its.files names read.included;
    texts = seen.texts;
    found = record { set = set; accepted = accepted; shapes = shapes; have = seen.have; findings_are = refl };
    found_on =
        both_told b.told m.told (IsWholeOn froms its.files names read.included) (HasFronts 16777217 prototypes seen.texts) _ its.kept.same
        (accepted_from options froms read b m its Checking set accepted) seen.fronts
        (λ c whole fronts. found_at options froms prototypes its.files names read.included set accepted c whole seen.texts fronts shapes seen.have);
  }

  not_prototype : (set : FileSet) → Accepted set → (name : List ℕ) (line : ℕ) → IsBadAmong prototypes name line m a →
      EndedNotPrototype options froms prototypes name line b a
  not_prototype set accepted name line bad = record {
    kept = kept_kept b m a its.kept bad.kept;
    bad =
        both_told b.told m.told (IsWholeOn froms its.files names read.included) (HasFronts 16777217 prototypes bad.texts) _ its.kept.same
        (accepted_from options froms read b m its Checking set accepted) bad.fronts
        (λ c whole fronts. bad_at options froms prototypes its.files names read.included set accepted c whole bad.texts fronts name line bad.bad);
  }

  listed_ended : (set : FileSet) → Accepted set → (shapes : List NamedShape) (k : ShelfState) → ArePrototypesRead prototypes shapes m k →
      (result : Result Checked CheckFail) → AreListed (file_names froms names) (disagreeing set.files shapes) k a result →
      CheckEnded options froms prototypes b a result
  listed_ended set accepted shapes k seen (Ok checked) done = record {
    names = file_names froms names;
    findings = disagreeing set.files shapes;
    found = found set accepted shapes k seen;
    answer = done.0;
    written = written_same _ _ b k a (kept_kept b m k its.kept seen.kept) (seen.quiet ∙ its.quiet) done.1;
  }
  listed_ended set accepted shapes k seen (Err (fail.Unwritten place)) stopped = record {
    names = file_names froms names;
    findings = disagreeing set.files shapes;
    found = found set accepted shapes k seen;
    named = stopped.0;
    unwritten = unwritten_same _ _ b k a (kept_kept b m k its.kept seen.kept) stopped.1;
  }
  listed_ended set accepted shapes k seen (Err fail.NoMemory) kept = kept_kept b k a (kept_kept b m k its.kept seen.kept) kept
  listed_ended set accepted shapes k seen (Err (fail.NotThere name)) never = absurd never
  listed_ended set accepted shapes k seen (Err (fail.Unread place)) never = absurd never
  listed_ended set accepted shapes k seen (Err (fail.Refused refusal name)) never = absurd never
  listed_ended set accepted shapes k seen (Err (fail.NotPrototype name line)) never = absurd never

  unread_ended : (set : FileSet) → Accepted set → (why : CheckFail) → ArePrototypesUnread prototypes m a why → CheckEnded options froms prototypes b a (Err why)
  unread_ended set accepted fail.NoMemory kept = kept_kept b m a its.kept kept
  unread_ended set accepted (fail.NotThere name) away = prototype_away (away_same prototypes name b m a its.kept its.quiet away)
  unread_ended set accepted (fail.Unread place) failed = prototype_failed (failed_same prototypes place b m a its.kept failed)
  unread_ended set accepted (fail.NotPrototype name line) bad = not_prototype set accepted name line bad
  unread_ended set accepted (fail.Refused refusal name) never = absurd never
  unread_ended set accepted (fail.Unwritten place) never = absurd never

  set_ended : (set : FileSet) → Accepted set → (result : Result Checked CheckFail) → SetChecked froms names set.files prototypes m a result →
      CheckEnded options froms prototypes b a result
  set_ended set accepted result (listed shapes k seen done) = listed_ended set accepted shapes k seen result done
  set_ended set accepted result (unread why is its_end) =
      subst (CheckEnded options froms prototypes b a) (sym is) (unread_ended set accepted why its_end)

  refused_ended : (refusal : Refusal) (why : CheckFail) → IsFirstOfAllFor Checking options its.files (entries names read.included) refusal →
      IsRefusedIn froms names refusal why → IsKept m a → CheckEnded options froms prototypes b a (Err why)
  refused_ended refusal (fail.Refused other name) first in_file kept =
      subst (λ r. CheckEnded options froms prototypes b a (Err (fail.Refused r name))) (sym in_file.0)
      (refused_from options froms read b m its Checking refusal name a first in_file.1 kept)
  refused_ended refusal fail.NoMemory first in_file kept = kept_kept b m a its.kept kept
  refused_ended refusal (fail.NotThere name) first never kept = absurd never
  refused_ended refusal (fail.Unread place) first never kept = absurd never
  refused_ended refusal (fail.NotPrototype name line) first never kept = absurd never
  refused_ended refusal (fail.Unwritten place) first never kept = absurd never

  pub source_ended : (result : Result Checked CheckFail) → SourceChecked options froms its.files names read.included prototypes m a result →
      CheckEnded options froms prototypes b a result
  source_ended result (judged set accepted done) = set_ended set accepted result done
  source_ended result (refused refusal why is first in_file kept) =
      subst (CheckEnded options froms prototypes b a) (sym is) (refused_ended refusal why first in_file kept)
  source_ended result (no_memory is kept) = subst (CheckEnded options froms prototypes b a) (sym is) (kept_kept b m a its.kept kept)

-- A SOURCE that was not read
unread_source : (options : Options) (froms prototypes : List Place) (b a : ShelfState) (why : SourceFail) (found : CheckFail) → IsFailOfReading why found →
    IsUnreadFrom options froms b a why → CheckEnded options froms prototypes b a (Err found)
unread_source options froms prototypes b a (source_fail.NotThere name) found is its =
    subst (λ (f : CheckFail). CheckEnded options froms prototypes b a (Err f)) (sym is) (source_away its)
unread_source options froms prototypes b a (source_fail.Unread place) found is its =
    subst (λ (f : CheckFail). CheckEnded options froms prototypes b a (Err f)) (sym is) (source_failed its)
unread_source options froms prototypes b a source_fail.NoMemory found is its =
    subst (λ (f : CheckFail). CheckEnded options froms prototypes b a (Err f)) (sym is) its

pub not_read : (options : Options) (froms prototypes : List Place) (b a : ShelfState) (why : SourceFail) (result : Result Checked CheckFail) →
    IsErrAnd result (IsFailOfReading why) → IsUnreadFrom options froms b a why → CheckEnded options froms prototypes b a result
not_read options froms prototypes b a why (Ok checked) is its = absurd is
not_read options froms prototypes b a why (Err found) is its = unread_source options froms prototypes b a why found is its

-- THE STEPS
pub set_listed : (froms : List Place) (included known shown : List (List ℕ)) (files : List File) (prototypes : List Place) (shapes seen : List NamedShape) (b m a : ShelfState)
    (result : Result Checked CheckFail) → known ≡ file_names froms included → shown ≡ known → seen ≡ shapes → ArePrototypesRead prototypes shapes b m →
    AreListed shown (disagreeing files seen) m a result → SetChecked froms included files prototypes b a result
set_listed froms included known shown files prototypes shapes seen b m a result names_are shown_is seen_is read done =
    listed shapes m read
    (subst (λ ss. AreListed (file_names froms included) (disagreeing files ss) m a result) seen_is
    (subst (λ ns. AreListed ns (disagreeing files seen) m a result) (shown_is ∙ names_are) done))

pub set_checked : (options : Options) (froms : List Place) (files known shown included bytes : List (List ℕ)) (prototypes : List Place) (set : FileSet) (trees : List File)
    (b a : ShelfState) (result : Result Checked CheckFail) → shown ≡ known → bytes ≡ included → trees ≡ set.files → IsSourceJudged options files known bytes (Ok set) →
    SetChecked froms shown trees prototypes b a result → SourceChecked options froms files known included prototypes b a result
set_checked options froms files known shown included bytes prototypes set trees b a result shown_is bytes_are trees_are accepted done =
    judged set (subst (λ bs. IsSourceJudged options files known bs (Ok set)) bytes_are accepted)
    (subst (λ ts. SetChecked froms known ts prototypes b a result) trees_are (subst (λ ns. SetChecked froms ns trees prototypes b a result) shown_is done))

unjudged : (options : Options) (froms : List Place) (files known included : List (List ℕ)) (prototypes : List Place) (why : Fail) (found : CheckFail) (b : ShelfState) →
    IsSourceJudged options files known included (Err why) → IsNotJudged froms known why found → SourceChecked options froms files known included prototypes b b (Err found)
unjudged options froms files known included prototypes (judge_fail.Refused refusal) found b first in_file =
    refused refusal found refl first in_file (kept_as_it_is b)
unjudged options froms files known included prototypes judge_fail.NoMemory found b first is = no_memory (ap Err is) (kept_as_it_is b)

pub not_checked : (options : Options) (froms : List Place) (files known shown included bytes : List (List ℕ)) (prototypes : List Place) (why : Fail) (found : CheckFail)
    (b : ShelfState) → shown ≡ known → bytes ≡ included → IsSourceJudged options files known bytes (Err why) → IsNotJudged froms shown why found →
    SourceChecked options froms files known included prototypes b b (Err found)
not_checked options froms files known shown included bytes prototypes why found b shown_is bytes_are first in_file =
    unjudged options froms files known included prototypes why found b (subst (λ bs. IsSourceJudged options files known bs (Err why)) bytes_are first)
    (subst (λ ns. IsNotJudged froms ns why found) shown_is in_file)
