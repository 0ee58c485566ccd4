-- How reading a source ends: places, and the files that they include. The shelf holds what it held.
use Rattle.std.specs.Prelude.{◌≡◌, ℕ, suc, List, length, map, Option, IfSome}
use Rattle.f2c_outside.specs.declared.shelves.Place.{Place}
use Rattle.f2c_outside.specs.declared.shelves.Place.TheVariants.{File as FileNamed}
use Rattle.f2c_outside.specs.Shelf.{ShelfState, Contents, Rose}
use Rattle.f_tree.specs.declared.names.Options.{Options}
use Rattle.f_tree.specs.declared.refusals.Refusal.{Refusal}
use Rattle.source_reader.specs.fortran_text.FirstFault.{most_bytes}
use Rattle.source_reader.specs.source_acceptance.SourceFiles.{Included}
use Rattle.source_reader.specs.source_verdict.SourceRows.{Purpose, Translation}
use Rattle.source_reader.specs.source_verdict.Fronts.{front_of, IsFirstOfAllFor}
use Rattle.source_reader.specs.SourceReading.{IsNamed}
use Rattle.source_files.specs.declared.failing.SourceFail.{SourceFail}
use Rattle.source_files.specs.declared.failing.SourceFail.TheVariants.{NotThere, Unread, NoMemory}
use Rattle.source_files.specs.declared.sources.SourceRead.{SourceRead}
use Rattle.source_files.specs.SourceOnShelf.{mentions, name_of_file, files_on, HasPlaces, IsRefusedFor, IsMissing}
use Rattle.source_files.specs.SourceReads.{IsPlaceAmong, IsAmong, IsAwayAmong, AreFronts}
use Rattle.shelf_texts.specs.ShelfLoops.{IsKept}

-- ## A source that was read

-- the places and these of the files that they include are there, and these are their fronts, with one byte more than a file may have
pub record AreFrontsOn (froms : List Place) (files names included : List (List ℕ)) (contents : Contents) : Type 0 where
  pub there : HasPlaces froms contents
  pub files_are : files ≡ map front_of (files_on contents froms)
  pub included_are : AreFronts (suc most_bytes) names included contents

-- the places were read, and those of the files that they include that are mentioned before the first file that has a fault of its cards
pub record IsReadFrom (options : Options) (froms : List Place) (read : SourceRead) (b a : ShelfState) : Type 0 where
  pub kept : IsKept b a
  pub quiet : a.faults ≡ b.faults
  pub files : List (List ℕ)
  pub count : length files ≡ length froms
  pub named : IsNamed options files read.named
  pub each_included : length read.included ≡ length read.named.names
  pub fronts : IfSome b.told (AreFrontsOn froms files read.named.names read.included)

-- files were read, and those that they include up to the first that has a fault of its cards, and each source of these has this first refusal, which
-- stands in the file with this name; where the shelf tells, the source of `froms` has it, of which no file is missing
pub record EndedRefusedFor (purpose : Purpose) (options : Options) (froms : List Place) (refusal : Refusal) (name : Option (List ℕ))
    (b a : ShelfState) : Type 0 where
  pub kept : IsKept b a
  pub files : List (List ℕ)
  pub read : List Included
  pub count : length files ≡ length froms
  pub first : IsFirstOfAllFor purpose options files read refusal
  pub named : name ≡ name_of_file froms (mentions files) refusal.file
  pub refused : IfSome b.told (IsRefusedFor purpose options froms refusal)
  pub named_there : IfSome b.told (λ contents. name ≡ name_of_file froms (mentions (files_on contents froms)) refusal.file)
  pub none_missing : IfSome b.told (λ contents. (missing : List ℕ) → IsMissing options froms missing contents → ⊥)

-- the same for a translation
abbrev pub EndedRefused : Options → List Place → Refusal → Option (List ℕ) → ShelfState → ShelfState → Type 0
EndedRefused options froms refusal name b a = EndedRefusedFor Translation options froms refusal name b a

-- ## A source that was not read

-- a file that they include is the first that is not there, and no call failed
pub record IsIncludedNotThere (options : Options) (froms : List Place) (name : List ℕ) (b a : ShelfState) : Type 0 where
  pub kept : IsKept b a
  pub quiet : a.faults ≡ b.faults
  pub missing : IfSome b.told (IsMissing options froms name)

pub data EndedNotThere (options : Options) (froms : List Place) (name : List ℕ) (b a : ShelfState) : Type 0 where
  of_place : IsAwayAmong froms name b a → EndedNotThere options froms name b a
  of_included : IsIncludedNotThere options froms name b a → EndedNotThere options froms name b a

-- one of the places, or a file that they include
pub data IsOfSource (froms : List Place) (contents : Contents) (place : Place) : Type 0 where
  a_place : IsPlaceAmong froms place → IsOfSource froms contents place
  an_included : (name : List ℕ) → place ≡ FileNamed name → IsAmong (mentions (files_on contents froms)) name → IsOfSource froms contents place

-- the shelf failed while it was being read
pub record EndedUnread (froms : List Place) (place : Place) (b a : ShelfState) : Type 0 where
  pub kept : IsKept b a
  pub of_source : IfSome b.told (λ contents. IsOfSource froms contents place)
  pub rose : Rose b.faults a.faults

-- why the places, or the files that they include, were not read
abbrev pub IsUnreadFrom : Options → List Place → ShelfState → ShelfState → SourceFail → Type 0
IsUnreadFrom options froms b a (NotThere name) = EndedNotThere options froms name b a
IsUnreadFrom options froms b a (Unread place) = EndedUnread froms place b a
IsUnreadFrom options froms b a NoMemory = IsKept b a
