-- How reading a source ends, from how reading its places and the files that they include does; and what a verdict on what was read says of the source.
use Rattle.std.specs.Prelude.{◌≡◌, ℕ, suc, List, length, map, Option, Some, None, Result, Ok, Err, IfSome, IfOk, IfErr}
use Rattle.std.proofs.Common.{sym, ap, subst, ◌∙◌}
use Rattle.f2c_outside.specs.declared.shelves.Place.{Place}
use Rattle.f2c_outside.specs.declared.shelves.Place.TheVariants.{File as FileNamed}
use Rattle.f2c_outside.specs.Shelf.{ShelfState, Contents, bytes_of}
use Rattle.f_tree.specs.declared.names.Options.{Options}
use Rattle.f_tree.specs.declared.refusals.Refusal.{Refusal}
use Rattle.f_tree.specs.declared.units.FileSet.{FileSet}
use Rattle.source_reader.specs.fortran_text.FirstFault.{most_bytes}
use Rattle.source_reader.specs.source_verdict.SourceRows as verdict
use Rattle.source_reader.specs.source_verdict.SourceRows.{Purpose}
use Rattle.source_reader.specs.source_verdict.Fronts.{front_of, IsFirstOfAllFor}
use Rattle.source_reader.specs.SourceReading.{entries, IsNamed}
use Rattle.source_reader.specs.Sources.{source_of}
use Rattle.source_reader.specs.declared.named.NamedFiles.{NamedFiles}
use Rattle.shelf_texts.specs.ShelfLoops.{IsKept}
use Rattle.source_files.specs.declared.failing.SourceFail.{SourceFail}
use Rattle.source_files.specs.declared.failing.SourceFail.TheVariants as source_fail
use Rattle.source_files.specs.declared.sources.SourceRead.{SourceRead}
use Rattle.source_files.specs.SourceOnShelf.{mentions, name_of_file, files_on, HasPlaces, AreThere, source_on, IsRefusedFor, IsMissing}
use Rattle.source_files.specs.SourceReads.{place_fronts, HasFronts, ArePlacesRead, ArePlacesUnread, AreFronts, IsAmong, IsFirstLacking, AreUnread, IsSourceRead, IsSourceUnread, no_names, unread}
use Rattle.source_files.specs.SourceEnds.{AreFrontsOn, IsReadFrom, EndedRefusedFor, of_place, of_included, IsOfSource, a_place, an_included, IsUnreadFrom}
use Rattle.source_files.proofs.ListLemmas.{mapped, both_told, map_length}
use Rattle.source_files.proofs.PlaceLemmas.{kept_kept, rose_later}
use Rattle.source_files.proofs.ReadLemmas.{there_all}
use Rattle.source_files.proofs.SourceLemmas.{most_is, fronts_are, NamedIn, named_in, named_whole, named_by, named_read, refused_on, none_missing, all_named, source_is, missing_on, among_all}

-- A SOURCE that was read
fronts_by : (most : ℕ) (c : Contents) (froms : List Place) (files : List (List ℕ)) → most ≡ suc most_bytes → HasFronts most froms files c →
    files ≡ map front_of (files_on c froms)
fronts_by most c froms files is have = have.fronts ∙ (ap (λ n. place_fronts n c froms) is ∙ fronts_are c froms)

fronts_on : (most : ℕ) (froms : List Place) (files names included : List (List ℕ)) (c : Contents) → most ≡ suc most_bytes → HasFronts most froms files c →
    AreFronts most names included c → AreFrontsOn froms files names included c
fronts_on most froms files names included c is have read = record {
  there = have.there;
  files_are = fronts_by most c froms files is have;
  included_are = subst (λ n. AreFronts n names included c) is read;
}

source_read : (options : Options) (froms : List Place) (most : ℕ) (b m a : ShelfState) (files : List (List ℕ)) (read : SourceRead) → most ≡ suc most_bytes →
    ArePlacesRead most froms files b m → IsSourceRead most options files read m a → IsReadFrom options froms read b a
source_read options froms most b m a files read is places its = record {
  kept = kept_kept b m a places.kept its.included.kept;
  quiet = its.included.quiet ∙ places.quiet;
  files = files;
  count = places.count;
  named = its.named;
  each_included = its.included.count;
  fronts =
      both_told b.told m.told _ _ _ places.kept.same places.fronts its.included.fronts
      (λ c have others. fronts_on most froms files read.named.names read.included c is have others);
}

pub read_from : (options : Options) (froms : List Place) (b m a : ShelfState) (files : List (List ℕ)) (result : Result SourceRead SourceFail) →
    ArePlacesRead 16777217 froms files b m → IfOk result (λ read. IsSourceRead 16777217 options files read m a) → IfOk result (λ read. IsReadFrom options froms read b a)
read_from options froms b m a files (Ok read) places its = source_read options froms 16777217 b m a files read most_is places its
read_from options froms b m a files (Err fail) places its = tt

-- A SOURCE of which a file was not read
record IsLackingOn (froms : List Place) (files names : List (List ℕ)) (name : List ℕ) (c : Contents) : Type 0 where
  there : HasPlaces froms c
  files_are : files ≡ map front_of (files_on c froms)
  first : IsFirstLacking names name c

whole_at : (options : Options) (froms : List Place) (files names : List (List ℕ)) (count : ℕ) (c : Contents) → NamedIn options files count names →
    files ≡ map front_of (files_on c froms) → NamedIn options (files_on c froms) count names
whole_at options froms files names count c its fronts = named_whole options (files_on c froms) count names (subst (λ fs. NamedIn options fs count names) fronts its)

of_source_at : (options : Options) (most : ℕ) (froms : List Place) (files names : List (List ℕ)) (count : ℕ) (name : List ℕ) (place : Place) (c : Contents) → most ≡ suc most_bytes →
    NamedIn options files count names → place ≡ FileNamed name → IsAmong names name → HasFronts most froms files c → IsOfSource froms c place
of_source_at options most froms files names count name place c is its named among have =
    an_included name named
    (among_all options (files_on c froms) count names name (whole_at options froms files names count c its (fronts_by most c froms files is have)) among)

unread_by : (options : Options) (froms : List Place) (most : ℕ) (b m a : ShelfState) (files : List (List ℕ)) (named : NamedFiles) (fail : SourceFail) → most ≡ suc most_bytes →
    ArePlacesRead most froms files b m → IsNamed options files named → AreUnread named.names m a fail → IsUnreadFrom options froms b a fail
unread_by options froms most b m a files named source_fail.NoMemory is read is_named kept = kept_kept b m a read.kept kept
unread_by options froms most b m a files named (source_fail.NotThere name) is read is_named missed =
    let its = named_in options files named is_named in
    of_included (record {
      kept = kept_kept b m a read.kept missed.kept;
      quiet = missed.quiet ∙ read.quiet;
      missing =
          mapped b.told (IsLackingOn froms files named.names name) _
          (both_told b.told m.told _ _ _ read.kept.same read.fronts missed.first
          (λ c have first. record { there = have.there; files_are = fronts_by most c froms files is have; first = first }))
          (λ c at. missing_on options c froms (length named.files) named.names name at.there (whole_at options froms files named.names (length named.files) c its at.files_are) at.first);
    })
unread_by options froms most b m a files named (source_fail.Unread place) is read is_named failed =
    let its = named_in options files named is_named in
    record {
      kept = kept_kept b m a read.kept failed.kept;
      of_source =
          mapped b.told _ _ read.fronts
          (λ c have. of_source_at options most froms files named.names (length named.files) failed.name place c is its failed.named failed.among have);
      rose = rose_later b m a read.kept failed.rose;
    }

source_unread : (options : Options) (froms : List Place) (most : ℕ) (b m a : ShelfState) (files : List (List ℕ)) (fail : SourceFail) → most ≡ suc most_bytes →
    ArePlacesRead most froms files b m → IsSourceUnread options files m a fail → IsUnreadFrom options froms b a fail
source_unread options froms most b m a files fail is read (no_names none kept) = subst (IsUnreadFrom options froms b a) (sym none) (kept_kept b m a read.kept kept)
source_unread options froms most b m a files fail is read (unread named is_named its) = unread_by options froms most b m a files named fail is read is_named its

pub unread_from : (options : Options) (froms : List Place) (b m a : ShelfState) (files : List (List ℕ)) (result : Result SourceRead SourceFail) →
    ArePlacesRead 16777217 froms files b m → IfErr result (IsSourceUnread options files m a) → IfErr result (IsUnreadFrom options froms b a)
unread_from options froms b m a files (Ok read) places its = tt
unread_from options froms b m a files (Err fail) places its = source_unread options froms 16777217 b m a files fail most_is places its

-- PLACES that were not read
always : (P : Contents → Type 0) (told : Option Contents) → ((c : Contents) → P c) → IfSome told P
always P None all = tt
always P (Some c) all = all c

pub places_unread : (options : Options) (froms : List Place) (b a : ShelfState) (fail : SourceFail) → ArePlacesUnread froms b a fail → IsUnreadFrom options froms b a fail
places_unread options froms b a source_fail.NoMemory kept = kept
places_unread options froms b a (source_fail.NotThere name) one = of_place one
places_unread options froms b a (source_fail.Unread place) one =
    record { kept = one.kept; of_source = always (λ c. IsOfSource froms c place) b.told (λ c. a_place one.among); rose = one.rose }

-- A VERDICT on what was read, where the shelf tells what it holds
module _ (options : Options) (froms : List Place) (files names included : List (List ℕ)) (count : ℕ) (its : NamedIn options files count names) (c : Contents)
    (at : AreFrontsOn froms files names included c) where
  its_fronts : NamedIn options (map front_of (files_on c froms)) count names
  its_fronts = subst (λ fs. NamedIn options fs count names) at.files_are its

  whole : NamedIn options (files_on c froms) count names
  whole = named_whole options (files_on c froms) count names its_fronts

  refused_at : (purpose : Purpose) (r : Refusal) → IsFirstOfAllFor purpose options files (entries names included) r → IsRefusedFor purpose options froms r c
  refused_at purpose r first =
      refused_on options c froms count names included whole at.included_are purpose r at.there (subst (λ fs. IsFirstOfAllFor purpose options fs (entries names included) r) at.files_are first)

  named_at : (purpose : Purpose) (r : Refusal) → IsFirstOfAllFor purpose options files (entries names included) r → name_of_file froms names r.file ≡ name_of_file froms (mentions (files_on c froms)) r.file
  named_at purpose r first = named_by purpose options froms (source_on c froms) count names r (map_length (λ p. bytes_of p c) froms) whole (refused_at purpose r first).first whole.end

  none_missing_at : (missing : List ℕ) → IsMissing options froms missing c → ⊥
  none_missing_at missing = none_missing options c froms count names included whole at.included_are missing

  accepted_fronts : (purpose : Purpose) (set : FileSet) → verdict.IsAcceptedFor purpose options (source_of files names included) set →
      verdict.IsAcceptedFor purpose options (source_of (map front_of (files_on c froms)) names included) set
  accepted_fronts purpose set accepted = subst (λ fs. verdict.IsAcceptedFor purpose options (source_of fs names included) set) at.files_are accepted

  source_at : (purpose : Purpose) (set : FileSet) → verdict.IsAcceptedFor purpose options (source_of files names included) set → source_of files names included ≡ source_on c froms
  source_at purpose set accepted =
      ap (λ fs. source_of fs names included) at.files_are
      ∙ sym (source_is options c froms count names included whole at.included_are purpose set (accepted_fronts purpose set accepted) its_fronts.end)

  names_at : (purpose : Purpose) (set : FileSet) → verdict.IsAcceptedFor purpose options (source_of files names included) set → names ≡ mentions (files_on c froms)
  names_at purpose set accepted =
      all_named options c froms count names included whole at.included_are purpose set (accepted_fronts purpose set accepted) its_fronts.end

  included_at : (purpose : Purpose) (set : FileSet) → verdict.IsAcceptedFor purpose options (source_of files names included) set → AreThere (mentions (files_on c froms)) c
  included_at purpose set accepted =
      subst (λ ns. AreThere ns c) (names_at purpose set accepted)
      (there_all (suc most_bytes) c names included at.included_are)

-- what is accepted is the source on the shelf, of which no file is missing
pub record IsWholeOn (froms : List Place) (files names included : List (List ℕ)) (c : Contents) : Type 0 where
  pub there : HasPlaces froms c
  pub included_there : AreThere (mentions (files_on c froms)) c
  pub names_are : names ≡ mentions (files_on c froms)
  pub is_source : source_of files names included ≡ source_on c froms

module _ (options : Options) (froms : List Place) (read : SourceRead) (b a : ShelfState) (its : IsReadFrom options froms read b a) where
  abbrev names : List (List ℕ)
  names = read.named.names

  in_files : NamedIn options its.files (length read.named.files) names
  in_files = named_in options its.files read.named its.named

  at_each : (P : Contents → Type 0) → ((c : Contents) → AreFrontsOn froms its.files names read.included c → P c) → IfSome b.told P
  at_each P each = mapped b.told (AreFrontsOn froms its.files names read.included) P its.fronts each

  pub refused_from : (purpose : Purpose) (refusal : Refusal) (name : Option (List ℕ)) (e : ShelfState) → IsFirstOfAllFor purpose options its.files (entries names read.included) refusal →
      name ≡ name_of_file froms names refusal.file → IsKept a e → EndedRefusedFor purpose options froms refusal name b e
  refused_from purpose refusal name e first named kept = record {
    kept = kept_kept b a e its.kept kept;
    files = its.files;
    read = entries names read.included;
    count = its.count;
    first = first;
    named = named ∙ named_read purpose options froms its.files names read.included (length read.named.files) refusal its.count its.each_included in_files first;
    refused = at_each _ (λ c at. refused_at options froms its.files names read.included (length read.named.files) in_files c at purpose refusal first);
    named_there = at_each _ (λ c at. named ∙ named_at options froms its.files names read.included (length read.named.files) in_files c at purpose refusal first);
    none_missing = at_each _ (λ c at. none_missing_at options froms its.files names read.included (length read.named.files) in_files c at);
  }

  pub accepted_from : (purpose : Purpose) (set : FileSet) → verdict.IsAcceptedFor purpose options (source_of its.files names read.included) set → IfSome b.told (IsWholeOn froms its.files names read.included)
  accepted_from purpose set accepted =
      at_each _
      (λ c at. record {
        there = at.there;
        included_there = included_at options froms its.files names read.included (length read.named.files) in_files c at purpose set accepted;
        names_are = names_at options froms its.files names read.included (length read.named.files) in_files c at purpose set accepted;
        is_source = source_at options froms its.files names read.included (length read.named.files) in_files c at purpose set accepted;
      })
