-- How a translation ends, from what was read of its source and what the translator answered.
use Rattle.std.specs.Prelude.{◌≡◌, ℕ, suc, Bool, List, take, drop, slice_get, Some, option_map, Result, Ok, Err, IfSome, IsErrAnd}
use Rattle.std.specs.Bool.{Decides}
use Rattle.std.proofs.Common.{sym, ap, subst, ◌∙◌, arith}
use Rattle.f2c_outside.specs.declared.shelves.Place.{Place}
use Rattle.f2c_outside.specs.declared.shelves.Place.TheVariants.{File as FileNamed}
use Rattle.f2c_outside.specs.Shelf.{ShelfState, Contents, bytes_of}
use Rattle.f_tree.specs.declared.names.Options.{Options}
use Rattle.source_files.specs.source_verdict.SourceRows.{Translation}
use Rattle.source_files.specs.source_reader.Sources.{source_of}
use Rattle.shelf_texts.specs.ShelfLoops.{IsKept, IsFrontWritten}
use Rattle.source_files.specs.declared.failing.SourceFail.{SourceFail}
use Rattle.source_files.specs.declared.failing.SourceFail.TheVariants as source_fail
use Rattle.source_files.specs.declared.sources.SourceRead.{SourceRead}
use Rattle.source_files.specs.SourceOnShelf.{HasPlaces, source_on, IsFirstAway}
use Rattle.source_files.specs.SourceReads.{HasFronts, ArePlacesRead, ArePlacesUnread, IsAwayAmong, IsFailedAmong}
use Rattle.source_files.specs.SourceEnds.{IsReadFrom, IsUnreadFrom}
use Rattle.source_files.proofs.ListLemmas.{mapped, both_told, map_length}
use Rattle.source_files.proofs.PlaceLemmas.{kept_kept, kept_as_it_is, rose_later}
use Rattle.source_files.proofs.EndLemmas.{IsWholeOn, refused_from, accepted_from}
use Rattle.translate_command.specs.declared.failing.TranslateFail.{TranslateFail}
use Rattle.translate_command.specs.declared.failing.TranslateFail.TheVariants as fail
use Rattle.translate_command.specs.Fails.{IsFailOfReading}
use Rattle.translate_command.specs.TranslatedTexts.{AreOutputsOf, IsTranslated}
use Rattle.translate_command.specs.OldPrototypes.{AllHaveStill, AreCompared}
use Rattle.translate_command.specs.declared.job.Job.{Job}
use Rattle.translate_command.specs.declared.texts.Made.{Made}
use Rattle.prototype_outputs.specs.prototypes.declared.prototype.Prototype.{Prototype}
use Rattle.prototype_outputs.specs.Forms.{AreFiles, IsFirstBad}
use Rattle.prototype_outputs.proofs.FrontLemmas.{most_is}
use Rattle.translate_command.specs.SourceTexts.{AreMadeFor, IsFormFail, ArePut, put, not_compared, TranslatedSource}
use Rattle.translate_command.specs.WrittenTexts.{all_written, IsStoppedAt, AreUnwritten}
use Rattle.translate_command.specs.TranslateEnds.{IsBadForm, source_away, form_away, source_failed, form_failed, old_failed, TranslateEnded}
use Rattle.translate_command.proofs.TextLemmas.{as_many_texts}
use Rattle.translate_command.proofs.FormLemmas.{files_on_shelf, files_before, parted, refused_on_shelf}

-- WRITING, from the shelf as it was before reading
stopped_same : (tos : List Place) (texts : List (List ℕ)) (number : ℕ) (b k a : ShelfState) → IsKept b k → IsStoppedAt tos texts number k a → IsStoppedAt tos texts number b a
stopped_same tos texts number b k a kept stopped = record {
  place = stopped.place;
  text = stopped.text;
  place_is = stopped.place_is;
  text_is = stopped.text_is;
  rose = rose_later b k a kept stopped.rose;
  later = let one = kept.later in let two = stopped.later in omega (arith, one, two);
  front = subst (λ told. IsFrontWritten stopped.place stopped.text (option_map (all_written (take number tos) (take number texts)) told) a.told) kept.same stopped.front;
}

unwritten_same : (tos : List Place) (texts : List (List ℕ)) (place : Place) (b k a : ShelfState) → IsKept b k → AreUnwritten tos texts place k a → AreUnwritten tos texts place b a
unfolding stopped_same
unwritten_same tos texts place b k a kept stopped =
    record { number = stopped.number; stopped = stopped_same tos texts stopped.number b k a kept stopped.stopped; named = stopped.named }

away_same : (places : List Place) (name : List ℕ) (b k a : ShelfState) → IsKept b k → k.faults ≡ b.faults → IsAwayAmong places name k a → IsAwayAmong places name b a
away_same places name b k a kept quiet away = record {
  kept = kept_kept b k a kept away.kept;
  quiet = away.quiet ∙ quiet;
  among = away.among;
  first = subst (λ told. IfSome told (IsFirstAway places (FileNamed name))) kept.same away.first;
}

failed_same : (places : List Place) (place : Place) (b k a : ShelfState) → IsKept b k → IsFailedAmong places place k a → IsFailedAmong places place b a
failed_same places place b k a kept failed =
    record { kept = kept_kept b k a kept failed.kept; among = failed.among; rose = rose_later b k a kept failed.rose }

-- A SOURCE that was read, where it is the one on the shelf, and so are the prototype files
module _ (options : Options) (job : Job) (files names included forms : List (List ℕ)) (texts outputs : List (List ℕ)) (lists : List (List Prototype))
    (made : AreOutputsOf options job.prototypes (source_of files names included) texts outputs lists) (c : Contents)
    (whole : IsWholeOn job.froms files names included c) (fronts : HasFronts 16777217 job.forms forms c) where
  here : AreOutputsOf options job.prototypes (source_on c job.froms) texts outputs lists
  here = subst (λ s. AreOutputsOf options job.prototypes s texts outputs lists) whole.is_source made

  translated_at : AreFiles forms → IsTranslated options job texts outputs lists c
  translated_at are = record {
    there = whole.there;
    included = whole.included_there;
    count = as_many_texts options (source_on c job.froms) texts here.made ∙ map_length (λ p. bytes_of p c) job.froms;
    outputs_of = here;
    forms_there = fronts.there;
    forms = files_on_shelf 16777217 c job.forms forms most_is fronts.fronts are;
  }

  bad_at : (name : List ℕ) (number line : ℕ) → slice_get job.forms number ≡ Some (FileNamed name) → IsFirstBad forms number line → IsBadForm options job name line c
  bad_at name number line place_is bad = record {
    there = whole.there;
    included = whole.included_there;
    accepted = record { set = here.made.set; is = here.made.accepted };
    forms_there = fronts.there;
    before = take number job.forms;
    behind = drop (suc number) job.forms;
    is = parted job.forms number (FileNamed name) place_is;
    others = files_before 16777217 c job.forms number forms most_is fronts.fronts bad.before;
    refused = refused_on_shelf 16777217 c job.forms name number line forms most_is fronts.fronts place_is bad;
  }

-- A SOURCE that was read, and further prototype files
module _ (options : Options) (job : Job) (tos : List Place) (read : SourceRead) (forms : List (List ℕ)) (b m k a : ShelfState)
    (its : IsReadFrom options job.froms read b m) (seen : ArePlacesRead 16777217 job.forms forms m k) where
  kept_to : IsKept b k
  kept_to = kept_kept b m k its.kept seen.kept

  abbrev names_read : List (List ℕ)
  names_read = read.named.names

  whole_on : (made : Made) → (of : AreMadeFor options job.prototypes its.files names_read read.included made) → IfSome b.told (IsWholeOn job.froms its.files names_read read.included)
  whole_on made of = accepted_from options job.froms read b m its Translation of.are.made.set of.are.made.accepted

  source_on_shelf : (made : Made) → AreMadeFor options job.prototypes its.files names_read read.included made →
      IfSome b.told (λ c. source_of its.files names_read read.included ≡ source_on c job.froms)
  source_on_shelf made of = mapped b.told _ _ (whole_on made of) (λ c whole. whole.is_source)

  translated_on_shelf : (made : Made) → (of : AreMadeFor options job.prototypes its.files names_read read.included made) → AreFiles forms →
      IfSome b.told (IsTranslated options job of.texts made.outputs made.lists)
  translated_on_shelf made of are =
      both_told b.told m.told _ _ _ its.kept.same (whole_on made of) seen.fronts
      (λ c whole fronts. translated_at options job its.files names_read read.included forms of.texts made.outputs made.lists of.are c whole fronts are)

  bad_on_shelf : (made : Made) → AreMadeFor options job.prototypes its.files names_read read.included made → (name : List ℕ) (number line : ℕ) →
      slice_get job.forms number ≡ Some (FileNamed name) → IsFirstBad forms number line → IfSome b.told (IsBadForm options job name line)
  bad_on_shelf made of name number line place_is bad =
      both_told b.told m.told _ _ _ its.kept.same (whole_on made of) seen.fronts
      (λ c whole fronts. bad_at options job its.files names_read read.included forms of.texts made.outputs made.lists of.are c whole fronts name number line place_is bad)

  pub source_ended : (result : Result Bool TranslateFail) → TranslatedSource options job its.files names_read read.included forms tos k a result →
      TranslateEnded options job tos b a result
  source_ended (Ok same) done = record {
    source = source_of its.files names_read read.included;
    texts = done.for_source.texts;
    outputs = done.made.outputs;
    lists = done.made.lists;
    made = done.for_source.are;
    whole = source_on_shelf done.made done.for_source;
    quiet = done.written.quiet ∙ (done.compared.quiet ∙ (seen.quiet ∙ its.quiet));
    translated = translated_on_shelf done.made done.for_source done.forms_are;
    compared = subst (λ told. IfSome told (λ c. Decides same (AllHaveStill job.olds done.made.lists c))) kept_to.same done.compared.still;
    later = let one = kept_to.later in let two = done.compared.kept.later in let three = done.written.quiet in omega (arith, one, two, three);
    written = done.written.whole ∙ ap (option_map (all_written tos done.made.outputs)) (done.compared.kept.same ∙ kept_to.same);
  }
  source_ended (Err (fail.Unwritten place)) done = record {
    source = source_of its.files names_read read.included;
    texts = done.for_source.texts;
    outputs = done.made.outputs;
    lists = done.made.lists;
    made = done.for_source.are;
    whole = source_on_shelf done.made done.for_source;
    translated = translated_on_shelf done.made done.for_source done.forms_are;
    unwritten = unwritten_same tos done.made.outputs place b done.middle a (kept_kept b k done.middle kept_to done.kept) done.unwritten;
  }
  source_ended (Err (fail.Refused refusal name)) first = record {
    refused = refused_from options job.froms read b m its Translation refusal name a first.0 first.1 (kept_kept m k a seen.kept first.2);
    forms_there = subst (λ told. IfSome told (HasPlaces job.forms)) its.kept.same (mapped m.told _ _ seen.fronts (λ c fronts. fronts.there));
  }
  source_ended (Err (fail.NotPrototype name line)) bad = record {
    kept = kept_kept b k a kept_to bad.3;
    bad = bad_on_shelf bad.0 bad.1 name bad.2.0 line bad.2.1 bad.2.2;
  }
  source_ended (Err (fail.Unread place)) failed = old_failed (failed_same job.olds place b k a kept_to failed)
  source_ended (Err fail.NoMemory) kept = kept_kept b k a kept_to kept
  source_ended (Err (fail.NotThere name)) never = absurd never

-- A SOURCE that was not read
unread : (options : Options) (job : Job) (tos : List Place) (b a : ShelfState) (why : SourceFail) (found : TranslateFail) → IsFailOfReading why found →
    IsUnreadFrom options job.froms b a why → TranslateEnded options job tos b a (Err found)
unread options job tos b a (source_fail.NotThere name) found is its =
    subst (λ (f : TranslateFail). TranslateEnded options job tos b a (Err f)) (sym is) (source_away its)
unread options job tos b a (source_fail.Unread place) found is its =
    subst (λ (f : TranslateFail). TranslateEnded options job tos b a (Err f)) (sym is) (source_failed its)
unread options job tos b a source_fail.NoMemory found is its = subst (λ (f : TranslateFail). TranslateEnded options job tos b a (Err f)) (sym is) its

pub not_read : (options : Options) (job : Job) (tos : List Place) (b a : ShelfState) (why : SourceFail) (result : Result Bool TranslateFail) →
    IsErrAnd result (IsFailOfReading why) → IsUnreadFrom options job.froms b a why → TranslateEnded options job tos b a result
not_read options job tos b a why (Ok same) is its = absurd is
not_read options job tos b a why (Err found) is its = unread options job tos b a why found is its

-- and prototype files that were not read
unread_forms : (options : Options) (job : Job) (tos : List Place) (b m a : ShelfState) (why : SourceFail) (found : TranslateFail) → IsKept b m → m.faults ≡ b.faults → IsFailOfReading why found →
    ArePlacesUnread job.forms m a why → TranslateEnded options job tos b a (Err found)
unread_forms options job tos b m a (source_fail.NotThere name) found kept quiet is its =
    subst (λ (f : TranslateFail). TranslateEnded options job tos b a (Err f)) (sym is) (form_away (away_same job.forms name b m a kept quiet its))
unread_forms options job tos b m a (source_fail.Unread place) found kept quiet is its =
    subst (λ (f : TranslateFail). TranslateEnded options job tos b a (Err f)) (sym is) (form_failed (failed_same job.forms place b m a kept its))
unread_forms options job tos b m a source_fail.NoMemory found kept quiet is its =
    subst (λ (f : TranslateFail). TranslateEnded options job tos b a (Err f)) (sym is) (kept_kept b m a kept its)

pub forms_not_read : (options : Options) (job : Job) (tos : List Place) (b m a : ShelfState) (why : SourceFail) (result : Result Bool TranslateFail) → IsKept b m → m.faults ≡ b.faults →
    IsErrAnd result (IsFailOfReading why) → ArePlacesUnread job.forms m a why → TranslateEnded options job tos b a result
forms_not_read options job tos b m a why (Ok same) kept quiet is its = absurd is
forms_not_read options job tos b m a why (Err found) kept quiet is its = unread_forms options job tos b m a why found kept quiet is its

-- THE STEPS behind what was made
pub was_put : (options : Options) (job : Job) (files names included forms : List (List ℕ)) (tos olds : List Place) (made : Made) (b a : ShelfState)
    (result : Result Bool TranslateFail) → olds ≡ job.olds → AreMadeFor options job.prototypes files names included made → AreFiles forms →
    ArePut olds made tos b a result → TranslatedSource options job files names included forms tos b a result
was_put options job files names included forms tos olds made b a (Ok answer) olds_are of are (put same middle compared done) = record {
  made = made;
  for_source = of;
  forms_are = are;
  middle = middle;
  compared = subst (λ s. AreCompared job.olds made.lists s b middle) (sym done.0) (subst (λ os. AreCompared os made.lists same b middle) olds_are compared);
  written = done.1;
}
was_put options job files names included forms tos olds made b a (Err (fail.Unwritten place)) olds_are of are (put same middle compared done) = record {
  made = made;
  for_source = of;
  forms_are = are;
  middle = middle;
  kept = compared.kept;
  unwritten = done;
}
was_put options job files names included forms tos olds made b a (Err (fail.NotThere name)) olds_are of are (put same middle compared done) = absurd done
was_put options job files names included forms tos olds made b a (Err (fail.Unread place)) olds_are of are (put same middle compared done) = absurd done
was_put options job files names included forms tos olds made b a (Err (fail.Refused refusal name)) olds_are of are (put same middle compared done) = absurd done
was_put options job files names included forms tos olds made b a (Err (fail.NotPrototype name line)) olds_are of are (put same middle compared done) = absurd done
was_put options job files names included forms tos olds made b a (Err fail.NoMemory) olds_are of are (put same middle compared done) = absurd done
was_put options job files names included forms tos olds made b a result olds_are of are (not_compared (fail.Unread place) is failed) =
    subst (TranslatedSource options job files names included forms tos b a) (sym is) (subst (λ os. IsFailedAmong os place b a) olds_are failed)
was_put options job files names included forms tos olds made b a result olds_are of are (not_compared fail.NoMemory is kept) =
    subst (TranslatedSource options job files names included forms tos b a) (sym is) kept
was_put options job files names included forms tos olds made b a result olds_are of are (not_compared (fail.NotThere name) is never) = absurd never
was_put options job files names included forms tos olds made b a result olds_are of are (not_compared (fail.Refused refusal name) is never) = absurd never
was_put options job files names included forms tos olds made b a result olds_are of are (not_compared (fail.NotPrototype name line) is never) = absurd never
was_put options job files names included forms tos olds made b a result olds_are of are (not_compared (fail.Unwritten place) is never) = absurd never

pub not_in_form : (options : Options) (job : Job) (files names included forms : List (List ℕ)) (tos places : List Place) (made : Made) (b : ShelfState) (why : TranslateFail) →
    places ≡ job.forms → AreMadeFor options job.prototypes files names included made → IsFormFail places forms why →
    TranslatedSource options job files names included forms tos b b (Err why)
not_in_form options job files names included forms tos places made b (fail.NotPrototype name line) places_are of bad =
    (made, of, subst (λ ps. IsFormFail ps forms (fail.NotPrototype name line)) places_are bad, kept_as_it_is b)
not_in_form options job files names included forms tos places made b fail.NoMemory places_are of bad = kept_as_it_is b
not_in_form options job files names included forms tos places made b (fail.NotThere name) places_are of bad = absurd bad
not_in_form options job files names included forms tos places made b (fail.Unread place) places_are of bad = absurd bad
not_in_form options job files names included forms tos places made b (fail.Refused refusal name) places_are of bad = absurd bad
not_in_form options job files names included forms tos places made b (fail.Unwritten place) places_are of bad = absurd bad
