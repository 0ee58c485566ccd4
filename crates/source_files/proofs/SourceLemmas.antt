-- What was read of a source, beside the source as a shelf holds it.
use Rattle.std.specs.Prelude.{◌≡◌, ℕ, zero, suc, ◌<◌, ◌≤◌, nat_lt, Bool, true, false, List, [], ◌∷◌, ◌++◌, length, take, map, slice_get, Option, Some, None, option_map}
use Rattle.std.proofs.Common.{refl, sym, ap, ◌∙◌, subst, arith, append_assoc}
use Rattle.std.proofs.lemmas.Bool.{ltb-true, ltb-false}
use Rattle.std.proofs.lemmas.List.{take_all, take-take, take-append-le}
use Rattle.std.proofs.lemmas.Option.{slice_get-map, slice_get_within}
use Rattle.f2c_outside.specs.declared.shelves.Place.{Place}
use Rattle.f2c_outside.specs.declared.shelves.Place.TheVariants.{File as FileNamed}
use Rattle.f2c_outside.specs.Shelf.{Contents, Lacks, bytes_of}
use Rattle.f_tree.specs.declared.names.Options.{Options}
use Rattle.f_tree.specs.declared.refusals.Kind.{Kind}
use Rattle.f_tree.specs.declared.refusals.Refusal.{Refusal}
use Rattle.f_tree.specs.declared.units.FileSet.{FileSet}
use Rattle.source_reader.specs.fortran_text.FirstFault.{most_bytes, FaultOfFile, IsSound}
use Rattle.source_reader.specs.fortran_text.StatementsOfFile.{FileCards}
use Rattle.source_reader.specs.source_acceptance.SourceFiles.{Included, Source, names_of, IsWhole}
use Rattle.source_reader.specs.source_acceptance.Acceptance.{of_file}
use Rattle.source_reader.specs.source_verdict.SourceRows as verdict
use Rattle.source_reader.specs.source_verdict.SourceRows.{Purpose, Phase, Cards, Syntax, Nesting, Declarations, Forms, Sharing, place_of, FaultFor, of_cards, IsFirstRefusalFor}
use Rattle.source_reader.specs.source_verdict.Fronts.{front_of, fronts, IsSourceOf, IsFirstOfAllFor, IsReadOf}
use Rattle.source_reader.proofs.source_verdict.LongFiles.{Alike, the_same, both_refused, front_alike, long_fault, long_is_unsound}
use Rattle.source_reader.proofs.source_verdict.FirstMentions.{BeginsWith, front_is_shorter, mentions_take}
use Rattle.source_reader.proofs.source_verdict.FrontLaws.{refused_by_fronts, accepted_by_fronts}
use Rattle.source_reader.proofs.source_verdict.EarlyPhases.{names_append}
use Rattle.source_reader.specs.Along.{Along, no_pair, one_pair}
use Rattle.source_reader.specs.SourceReading.{IsFileRead, IsStop, IsNamed, entries}
use Rattle.source_reader.specs.Sources.{source_of}
use Rattle.source_reader.specs.declared.named.NamedFiles.{NamedFiles}
use Rattle.source_files.specs.SourceOnShelf.{mentions, name_by, name_of_file, files_on, HasPlaces, IsThere, AreThere, included_on, source_on, IsRefusedFor, AreSound, IsMissing}
use Rattle.source_files.specs.SourceReads.{place_fronts, AreFronts, IsAmong, IsFirstLacking}
use Rattle.source_files.proofs.ListLemmas.{some_same, at_seam, at_taken, IsMappedAt, mapped_at, map_length}
use Rattle.source_files.proofs.ReadLemmas.{there_all}

pub most_is : 16777217 ≡ suc most_bytes
unfolding most_bytes
most_is = refl

-- THE FRONTS that were read
entry_of : (name one other : List ℕ) (more others : List Included) → one ≡ other → more ≡ others →
    record { name = name; bytes = one } ∷ more ≡ record { name = name; bytes = other } ∷ others
entry_of name one other more others first rest =
    ap (λ b. record { name = name; bytes = b } ∷ more) first ∙ ap (λ m. record { name = name; bytes = other } ∷ m) rest

fronts_on : (c : Contents) (names texts : List (List ℕ)) → AreFronts (suc most_bytes) names texts c → fronts (included_on c names) ≡ entries names texts
unfolding fronts included_on entries AreFronts
fronts_on c [] [] read = refl
fronts_on c [] (text ∷ texts) read = absurd read
fronts_on c (name ∷ names) [] read = absurd read
fronts_on c (name ∷ names) (text ∷ texts) read =
    entry_of name (front_of (bytes_of (FileNamed name) c)) text (fronts (included_on c names)) (entries names texts) (sym read.0.front) (fronts_on c names texts read.1)

entries_length : (most : ℕ) (c : Contents) (names texts : List (List ℕ)) → AreFronts most names texts c → length (entries names texts) ≡ length names
unfolding entries AreFronts
entries_length most c [] [] read = refl
entries_length most c [] (text ∷ texts) read = absurd read
entries_length most c (name ∷ names) [] read = absurd read
entries_length most c (name ∷ names) (text ∷ texts) read = ap suc (entries_length most c names texts read.1)

fronts_more : (c : Contents) (names more : List (List ℕ)) → fronts (included_on c (names ++ more)) ≡ fronts (included_on c names) ++ fronts (included_on c more)
unfolding fronts included_on
fronts_more c [] more = refl
fronts_more c (name ∷ names) more = ap (λ is. record { name = name; bytes = front_of (bytes_of (FileNamed name) c) } ∷ is) (fronts_more c names more)

pub there_at : (c : Contents) (before : List (List ℕ)) (name : List ℕ) (behind : List (List ℕ)) → AreThere (before ++ name ∷ behind) c → IsThere name c
unfolding AreThere
there_at c [] name behind are = are.0
there_at c (n ∷ before) name behind are = there_at c before name behind are.1

pub place_at : (c : Contents) (before : List Place) (place : Place) (behind : List Place) → HasPlaces (before ++ place ∷ behind) c → ¬ Lacks place c
unfolding HasPlaces
place_at c [] place behind have = have.0
place_at c (p ∷ before) place behind have = place_at c before place behind have.1

names_on : (c : Contents) (names : List (List ℕ)) → names_of (included_on c names) ≡ names
unfolding names_of included_on
names_on c [] = refl
names_on c (name ∷ names) = ap (λ ns. name ∷ ns) (names_on c names)

whole_on : (c : Contents) (froms : List Place) → IsWhole (source_on c froms)
whole_on c froms = record { included = names_on c (mentions (files_on c froms)) }

pub fronts_are : (c : Contents) (places : List Place) → place_fronts (suc most_bytes) c places ≡ map front_of (files_on c places)
fronts_are c [] = refl
fronts_are c (place ∷ places) = ap (λ fs. front_of (bytes_of place c) ∷ fs) (fronts_are c places)

-- THE FILES up to the first that has a fault of its cards, and the names that they mention
pub data IsEnd (options : Options) (files : List (List ℕ)) (count : ℕ) : Type 0 where
  at_end : length files ≤ count → IsEnd options files count
  at_fault : (bytes : List ℕ) (card : ℕ) (kind : Kind) → slice_get files count ≡ Some bytes → FaultOfFile options.long_cards bytes card kind → IsEnd options files count

pub record NamedIn (options : Options) (files : List (List ℕ)) (count : ℕ) (names : List (List ℕ)) : Type 0 where
  pub sound : AreSound options files count
  pub end : IsEnd options files count
  pub names_are : names ≡ mentions (take count files)

sound_along : (refused : Bool) (n : ℕ) (files : List (List ℕ)) (cards : List FileCards) → Along (IsFileRead refused) n files cards → (file : ℕ) (bytes : List ℕ) →
    slice_get files file ≡ Some bytes → IsSound (FaultOfFile refused bytes)
sound_along refused n _ _ (no_pair _) file bytes at = absurd (cc)
sound_along refused n _ _ (one_pair _ a b more others one rest) zero bytes at = subst (λ x. IsSound (FaultOfFile refused x)) (some_same a bytes at) one.sound
sound_along refused n _ _ (one_pair _ a b more others one rest) (suc file) bytes at = sound_along refused (suc n) more others rest file bytes at

end_of : (options : Options) (files : List (List ℕ)) (count : ℕ) (refused : Option Refusal) → IsStop options.long_cards files count refused → IsEnd options files count
end_of options files count None stop = at_end stop
end_of options files count (Some r) stop = at_fault stop.bytes r.card r.kind stop.is stop.first.is

pub named_in : (options : Options) (files : List (List ℕ)) (named : NamedFiles) → IsNamed options files named → NamedIn options files (length named.files) named.names
named_in options files named is = record {
  sound = record {
    each = λ file bytes within at.
        sound_along options.long_cards 0 (take (length named.files) files) named.files is.read file bytes (at_taken (length named.files) files file within ∙ at);
  };
  end = end_of options files (length named.files) named.refused is.stop;
  names_are = is.names;
}

-- the same of whole files, where fronts were read
whole_if_sound : (refused : Bool) (bytes : List ℕ) → Alike refused (front_of bytes) bytes → IsSound (FaultOfFile refused (front_of bytes)) → front_of bytes ≡ bytes
whole_if_sound refused bytes (the_same is) sound = is
whole_if_sound refused bytes (both_refused same back) sound = absurd (long_fault refused (front_of bytes) bytes same sound)

fault_of_whole : (refused : Bool) (bytes : List ℕ) (card : ℕ) (kind : Kind) → Alike refused (front_of bytes) bytes → FaultOfFile refused (front_of bytes) card kind →
    FaultOfFile refused bytes card kind
fault_of_whole refused bytes card kind (the_same is) fault = subst (λ b. FaultOfFile refused b card kind) is fault
fault_of_whole refused bytes card kind (both_refused same back) fault = same.file card kind fault

taken_whole : (count : ℕ) (files : List (List ℕ)) → ((file : ℕ) (bytes : List ℕ) → file < count → slice_get files file ≡ Some bytes → front_of bytes ≡ bytes) →
    take count (map front_of files) ≡ take count files
taken_whole zero files each = refl
taken_whole (suc count) [] each = refl
taken_whole (suc count) (bytes ∷ files) each =
    ap (λ b. b ∷ take count (map front_of files)) (each 0 bytes (omega arith) refl)
    ∙ ap (λ fs. bytes ∷ fs) (taken_whole count files (λ file b within at. each (suc file) b (omega (arith, within)) at))

module _ (options : Options) (files : List (List ℕ)) (count : ℕ) (names : List (List ℕ)) (of_fronts : NamedIn options (map front_of files) count names) where
  front_at : (file : ℕ) (bytes : List ℕ) → slice_get files file ≡ Some bytes → slice_get (map front_of files) file ≡ Some (front_of bytes)
  front_at file bytes at = slice_get-map front_of files file ∙ ap (option_map front_of) at

  is_whole : (file : ℕ) (bytes : List ℕ) → file < count → slice_get files file ≡ Some bytes → front_of bytes ≡ bytes
  is_whole file bytes within at =
      whole_if_sound options.long_cards bytes (front_alike options.long_cards bytes) (of_fronts.sound.each file (front_of bytes) within (front_at file bytes at))

  end_whole : IsEnd options (map front_of files) count → IsEnd options files count
  end_whole (at_end past) = let same = map_length front_of files in at_end (omega (arith, past, same))
  end_whole (at_fault bytes card kind at fault) =
      let its : IsMappedAt front_of files count bytes = mapped_at front_of files count bytes at in
      at_fault its.x card kind its.at
      (fault_of_whole options.long_cards its.x card kind (front_alike options.long_cards its.x) (subst (λ b. FaultOfFile options.long_cards b card kind) its.is fault))

  pub named_whole : NamedIn options files count names
  named_whole = record {
    sound = record {
      each = λ file bytes within at.
          subst (λ b. IsSound (FaultOfFile options.long_cards b)) (is_whole file bytes within at)
          (of_fronts.sound.each file (front_of bytes) within (front_at file bytes at));
    };
    end = end_whole of_fronts.end;
    names_are = of_fronts.names_are ∙ ap mentions (taken_whole count files is_whole);
  }

-- A REFUSAL of a source of which a file has a fault of its cards stands in this file or before it
data CardsOrLater (phase : Phase) : Type 0 where
  is_cards : phase ≡ Cards → CardsOrLater phase
  is_later : place_of Cards < place_of phase → CardsOrLater phase

cards_or_later : (phase : Phase) → CardsOrLater phase
unfolding place_of
cards_or_later Cards = is_cards refl
cards_or_later Syntax = is_later (omega arith)
cards_or_later Nesting = is_later (omega arith)
cards_or_later Declarations = is_later (omega arith)
cards_or_later Forms = is_later (omega arith)
cards_or_later Sharing = is_later (omega arith)

a_row : (purpose : Purpose) (options : Options) (source : Source) (file : ℕ) (bytes : List ℕ) (card : ℕ) (kind : Kind) → slice_get source.files file ≡ Some bytes →
    FaultOfFile options.long_cards bytes card kind → FaultFor purpose options source Cards (record { file = file; card = card; kind = kind })
a_row purpose options source file bytes card kind at fault = of_cards _ (of_file bytes at fault)

in_file : (purpose : Purpose) (options : Options) (source : Source) (r : Refusal) (file : ℕ) (bytes : List ℕ) (card : ℕ) (kind : Kind) → slice_get source.files file ≡ Some bytes →
    FaultOfFile options.long_cards bytes card kind → (first : IsFirstRefusalFor purpose options source r) → CardsOrLater first.phase → r.file ≤ file
in_file purpose options source r file bytes card kind at fault first (is_cards is) =
    let row : Refusal = record { file = file; card = card; kind = kind } in
    (first.least row (subst (λ p. FaultFor purpose options source p row) (sym is) (a_row purpose options source file bytes card kind at fault))).file
in_file purpose options source r file bytes card kind at fault first (is_later behind) = absurd (first.read Cards _ behind (a_row purpose options source file bytes card kind at fault))

-- THE NAME of its file
found_by : (names more : List (List ℕ)) (behind : ℕ) (found : Option Place) → (found ≡ None → ⊥) → name_by names behind found ≡ name_by more behind found
found_by names more behind (Some place) there = refl
found_by names more behind None there = absurd (there refl)

not_none : (froms : List Place) (file : ℕ) → file < length froms → slice_get froms file ≡ None → ⊥
not_none [] file within none = absurd (omega (arith, within))
not_none (p ∷ froms) zero within none = absurd (cc)
not_none (p ∷ froms) (suc file) within none = not_none froms file (omega (arith, within)) none

same_name : (froms : List Place) (names more : List (List ℕ)) (file : ℕ) → file < length froms → name_of_file froms names file ≡ name_of_file froms more file
same_name froms names more file within = found_by names more _ (slice_get froms file) (not_none froms file within)

pub named_by : (purpose : Purpose) (options : Options) (froms : List Place) (source : Source) (count : ℕ) (names : List (List ℕ)) (r : Refusal) → length source.files ≡ length froms →
    NamedIn options source.files count names → IsFirstRefusalFor purpose options source r → IsEnd options source.files count →
    name_of_file froms names r.file ≡ name_of_file froms (mentions source.files) r.file
named_by purpose options froms source count names r same its first (at_end past) =
    ap (λ ns. name_of_file froms ns r.file) (its.names_are ∙ ap mentions (take_all count source.files past))
named_by purpose options froms source count names r same its first (at_fault bytes card kind at fault) =
    let low : r.file ≤ count = in_file purpose options source r count bytes card kind at fault first (cards_or_later first.phase) in
    let within : count < length source.files = slice_get_within source.files count bytes at in
    same_name froms names (mentions source.files) r.file (omega (arith, low, within, same))

-- the same of the fronts alone, whatever else is included
blank : List (List ℕ) → List Included
blank [] = []
blank (name ∷ names) = record { name = name; bytes = [] } ∷ blank names

names_of_blank : (names : List (List ℕ)) → names_of (blank names) ≡ names
unfolding names_of blank
names_of_blank [] = refl
names_of_blank (name ∷ names) = ap (λ ns. name ∷ ns) (names_of_blank names)

names_of_entries : (names texts : List (List ℕ)) → length texts ≡ length names → names_of (entries names texts) ≡ names
unfolding names_of entries
names_of_entries [] texts same = refl
names_of_entries (name ∷ names) [] same = absurd (omega (arith, same))
names_of_entries (name ∷ names) (text ∷ texts) same = ap (λ ns. name ∷ ns) (names_of_entries names texts (omega (arith, same)))

abbrev some_source : List (List ℕ) → List (List ℕ) → List (List ℕ) → List (List ℕ) → Source
some_source files names texts more = record { files = files; included = entries names texts ++ blank more }

is_some_source : (files names texts more : List (List ℕ)) → length texts ≡ length names → mentions files ≡ names ++ more →
    IsSourceOf files (entries names texts) (some_source files names texts more)
is_some_source files names texts more same is = record {
  files_are = refl;
  whole = record {
    included = names_append (entries names texts) (blank more)
        ∙ (ap (λ ns. ns ++ names_of (blank more)) (names_of_entries names texts same) ∙ (ap (λ ns. names ++ ns) (names_of_blank more) ∙ sym is));
  };
  rest = blank more;
  included = refl;
}

pub begins_named : (options : Options) (files : List (List ℕ)) (count : ℕ) (names : List (List ℕ)) → NamedIn options files count names → BeginsWith names (mentions files)
begins_named options files count names its = subst (λ ns. BeginsWith ns (mentions files)) (sym its.names_are) (mentions_take count files)

pub named_read : (purpose : Purpose) (options : Options) (froms : List Place) (files names texts : List (List ℕ)) (count : ℕ) (r : Refusal) → length files ≡ length froms →
    length texts ≡ length names → NamedIn options files count names → IsFirstOfAllFor purpose options files (entries names texts) r →
    name_of_file froms names r.file ≡ name_of_file froms (mentions files) r.file
named_read purpose options froms files names texts count r same counts its first =
    let begins = begins_named options files count names its in
    named_by purpose options froms (some_source files names texts begins.rest) count names r same its
    (first (some_source files names texts begins.rest) (is_some_source files names texts begins.rest counts begins.is)) its.end

-- A REFUSAL by what was read
module _ (options : Options) (c : Contents) (froms : List Place) (count : ℕ) (names texts : List (List ℕ)) (its : NamedIn options (files_on c froms) count names)
    (read : AreFronts (suc most_bytes) names texts c) where
  begins_on : BeginsWith names (mentions (files_on c froms))
  begins_on = begins_named options (files_on c froms) count names its

  few : (before : List (List ℕ)) (long : List ℕ) (behind : List (List ℕ)) → files_on c froms ≡ before ++ long ∷ behind → most_bytes < length long → (past : Bool) →
      nat_lt (length before) count ≡ past → length (entries names texts) ≤ length (mentions before)
  few before long behind is long_one true past =
      absurd (long_is_unsound options.long_cards long long_one
      (its.sound.each (length before) long (ltb-true (length before) count past) (ap (λ fs. slice_get fs (length before)) is ∙ at_seam before long behind)))
  few before long behind is long_one false past =
      let low : count ≤ length before = ltb-false (length before) count past in
      let same : take count (files_on c froms) ≡ take count before = ap (take count) is ∙ take-append-le count before (long ∷ behind) low in
      let size = entries_length (suc most_bytes) c names texts read in
      let named : length names ≡ length (mentions (take count before)) = ap length (its.names_are ∙ ap mentions same) in
      let shorter = front_is_shorter (mentions (take count before)) (mentions before) (mentions_take count before) in
      omega (arith, size, named, shorter)

  is_read_of : IsReadOf (files_on c froms) (entries names texts) (source_on c froms)
  is_read_of = record {
    files_are = refl;
    whole = whole_on c froms;
    rest = fronts (included_on c begins_on.rest);
    included = ap (λ ns. fronts (included_on c ns)) begins_on.is
        ∙ (fronts_more c names begins_on.rest ∙ ap (λ es. es ++ fronts (included_on c begins_on.rest)) (fronts_on c names texts read));
    within = λ before long behind is long_one. few before long behind is long_one (nat_lt (length before) count) refl;
  }

  pub refused_on : (purpose : Purpose) (r : Refusal) → HasPlaces froms c → IsFirstOfAllFor purpose options (map front_of (files_on c froms)) (entries names texts) r → IsRefusedFor purpose options froms r c
  refused_on purpose r there first = record {
    there = there;
    first = refused_by_fronts purpose options (files_on c froms) (entries names texts) r (source_on c froms) first is_read_of;
  }

  -- no file is missing
  none_by : (missing : List ℕ) (m : IsMissing options froms missing c) → BeginsWith (mentions (take m.count (files_on c froms))) names → ⊥
  none_by missing m begins =
      let all : names ≡ m.before ++ missing ∷ (m.behind ++ begins.rest) =
      begins.is ∙ (ap (λ ns. ns ++ begins.rest) m.mentioned ∙ append_assoc m.before (missing ∷ m.behind) begins.rest) in
      m.lacks (there_at c m.before missing (m.behind ++ begins.rest) (subst (λ ns. AreThere ns c) all (there_all (suc most_bytes) c names texts read)))

  begins_by : (missing : List ℕ) (m : IsMissing options froms missing c) → IsEnd options (files_on c froms) count → (past : Bool) → nat_lt count m.count ≡ past →
      BeginsWith (mentions (take m.count (files_on c froms))) names
  begins_by missing m (at_end end) past is =
      subst (λ ns. BeginsWith (mentions (take m.count (files_on c froms))) ns) (sym (its.names_are ∙ ap mentions (take_all count (files_on c froms) end)))
      (mentions_take m.count (files_on c froms))
  begins_by missing m (at_fault bytes card kind at fault) true is = absurd (m.sound.each count bytes (ltb-true count m.count is) at card kind fault)
  begins_by missing m (at_fault bytes card kind at fault) false is =
      let low : m.count ≤ count = ltb-false count m.count is in
      let same : take m.count (take count (files_on c froms)) ≡ take m.count (files_on c froms) = take-take m.count count (files_on c froms) low in
      subst (λ ns. BeginsWith ns names) (ap mentions same)
      (subst (λ ns. BeginsWith (mentions (take m.count (take count (files_on c froms)))) ns) (sym its.names_are) (mentions_take m.count (take count (files_on c froms))))

  pub none_missing : (missing : List ℕ) → IsMissing options froms missing c → ⊥
  none_missing missing m = none_by missing m (begins_by missing m its.end (nat_lt count m.count) refl)

  -- WHAT IS ACCEPTED was read whole
  clear_end : (purpose : Purpose) (set : FileSet) → verdict.IsAcceptedFor purpose options (source_of (map front_of (files_on c froms)) names texts) set → IsEnd options (map front_of (files_on c froms)) count →
      length (map front_of (files_on c froms)) ≤ count
  clear_end purpose set accepted (at_end past) = past
  clear_end purpose set accepted (at_fault bytes card kind at fault) =
      absurd (accepted.sound Cards _ (a_row purpose options (source_of (map front_of (files_on c froms)) names texts) count bytes card kind at fault))

  pub all_named : (purpose : Purpose) (set : FileSet) → verdict.IsAcceptedFor purpose options (source_of (map front_of (files_on c froms)) names texts) set → IsEnd options (map front_of (files_on c froms)) count →
      names ≡ mentions (files_on c froms)
  all_named purpose set accepted end =
      let past = clear_end purpose set accepted end in
      let same = map_length front_of (files_on c froms) in
      its.names_are ∙ ap mentions (take_all count (files_on c froms) (omega (arith, past, same)))

  pub source_is : (purpose : Purpose) (set : FileSet) → verdict.IsAcceptedFor purpose options (source_of (map front_of (files_on c froms)) names texts) set → IsEnd options (map front_of (files_on c froms)) count →
      source_on c froms ≡ source_of (map front_of (files_on c froms)) names texts
  source_is purpose set accepted end =
      accepted_by_fronts purpose options (files_on c froms) (entries names texts) set (source_on c froms) accepted refl
      (ap (λ ns. fronts (included_on c ns)) (sym (all_named purpose set accepted end)) ∙ fronts_on c names texts read)

-- A FILE that is missing
pub missing_on : (options : Options) (c : Contents) (froms : List Place) (count : ℕ) (names : List (List ℕ)) (name : List ℕ) → HasPlaces froms c →
    NamedIn options (files_on c froms) count names → IsFirstLacking names name c → IsMissing options froms name c
missing_on options c froms count names name there its first = record {
  there = there;
  count = count;
  sound = its.sound;
  before = first.before;
  behind = first.behind;
  mentioned = sym its.names_are ∙ first.is;
  others = first.others;
  lacks = first.lacks;
}

-- a name among those that were read is among those that are mentioned
pub among_all : (options : Options) (files : List (List ℕ)) (count : ℕ) (names : List (List ℕ)) (name : List ℕ) → NamedIn options files count names → IsAmong names name →
    IsAmong (mentions files) name
among_all options files count names name its among =
    let begins = begins_named options files count names its in
    record {
      before = among.before;
      behind = among.behind ++ begins.rest;
      is = begins.is ∙ (ap (λ ns. ns ++ begins.rest) among.is ∙ append_assoc among.before (name ∷ among.behind) begins.rest);
    }
