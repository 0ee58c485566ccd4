-- What reading the files of a source does to a shelf.
use Rattle.std.specs.Prelude.{◌≡◌, ℕ, List, [], ◌∷◌, ◌++◌, length, take, map, IfSome}
use Rattle.f2c_outside.specs.declared.shelves.Place.{Place}
use Rattle.f2c_outside.specs.declared.shelves.Place.TheVariants.{File as FileNamed}
use Rattle.f2c_outside.specs.Shelf.{ShelfState, Contents, Rose, Lacks, bytes_of}
use Rattle.f_tree.specs.declared.names.Options.{Options}
use Rattle.source_reader.specs.SourceReading.{IsNamed}
use Rattle.source_reader.specs.declared.named.NamedFiles.{NamedFiles}
use Rattle.source_files.specs.declared.failing.SourceFail.{SourceFail}
use Rattle.source_files.specs.declared.failing.SourceFail.TheVariants.{NotThere, Unread, NoMemory}
use Rattle.source_files.specs.declared.sources.SourceRead.{SourceRead}
use Rattle.source_files.specs.SourceOnShelf.{HasPlaces, IsThere, AreThere, IsFirstAway}
use Rattle.shelf_texts.specs.ShelfLoops.{IsKept}

-- ## Places

-- the fronts of what places hold
abbrev pub place_fronts : ℕ → Contents → List Place → List (List ℕ)
place_fronts most contents places = map (λ place. take most (bytes_of place contents)) places

-- places that are there, and their fronts
pub record HasFronts (most : ℕ) (places : List Place) (texts : List (List ℕ)) (contents : Contents) : Type 0 where
  pub there : HasPlaces places contents
  pub fronts : texts ≡ place_fronts most contents places

-- the fronts of these places were read, and the shelf holds what it held
pub record ArePlacesRead (most : ℕ) (places : List Place) (texts : List (List ℕ)) (b a : ShelfState) : Type 0 where
  pub kept : IsKept b a
  pub quiet : a.faults ≡ b.faults
  pub count : length texts ≡ length places
  pub fronts : IfSome b.told (HasFronts most places texts)

-- a place among others
pub record IsPlaceAmong (places : List Place) (place : Place) : Type 0 where
  pub before : List Place
  pub behind : List Place
  pub is : places ≡ before ++ place ∷ behind

-- one place was not read, and why: a file that is not there, where no call failed, or a count that rose
pub record IsAway (place : Place) (name : List ℕ) (b a : ShelfState) : Type 0 where
  pub kept : IsKept b a
  pub quiet : a.faults ≡ b.faults
  pub named : place ≡ FileNamed name
  pub lacks : IfSome b.told (Lacks place)

pub record IsFailed (place failed : Place) (b a : ShelfState) : Type 0 where
  pub kept : IsKept b a
  pub named : failed ≡ place
  pub rose : Rose b.faults a.faults

abbrev pub IsPlaceUnread : Place → ShelfState → ShelfState → SourceFail → Type 0
IsPlaceUnread place b a NoMemory = IsKept b a
IsPlaceUnread place b a (NotThere name) = IsAway place name b a
IsPlaceUnread place b a (Unread failed) = IsFailed place failed b a

-- places were not read, and why: the first that is not there, where no call failed, or a count that rose
pub record IsAwayAmong (places : List Place) (name : List ℕ) (b a : ShelfState) : Type 0 where
  pub kept : IsKept b a
  pub quiet : a.faults ≡ b.faults
  pub among : IsPlaceAmong places (FileNamed name)
  pub first : IfSome b.told (IsFirstAway places (FileNamed name))

pub record IsFailedAmong (places : List Place) (failed : Place) (b a : ShelfState) : Type 0 where
  pub kept : IsKept b a
  pub among : IsPlaceAmong places failed
  pub rose : Rose b.faults a.faults

abbrev pub ArePlacesUnread : List Place → ShelfState → ShelfState → SourceFail → Type 0
ArePlacesUnread places b a NoMemory = IsKept b a
ArePlacesUnread places b a (NotThere name) = IsAwayAmong places name b a
ArePlacesUnread places b a (Unread failed) = IsFailedAmong places failed b a

-- ## Included files

-- the front of a file of this name was read
pub record IsFrontOf (most : ℕ) (name text : List ℕ) (contents : Contents) : Type 0 where
  pub there : IsThere name contents
  pub front : text ≡ take most (bytes_of (FileNamed name) contents)

unfoldable pub AreFronts : ℕ → List (List ℕ) → List (List ℕ) → Contents → Type 0
AreFronts most [] [] contents = Unit {0}
AreFronts most (name ∷ names) (text ∷ texts) contents = IsFrontOf most name text contents × AreFronts most names texts contents
AreFronts most names texts contents = ⊥

-- the fronts of the files of these names were read, and the shelf holds what it held
pub record AreRead (most : ℕ) (names texts : List (List ℕ)) (b a : ShelfState) : Type 0 where
  pub kept : IsKept b a
  pub quiet : a.faults ≡ b.faults
  pub count : length texts ≡ length names
  pub fronts : IfSome b.told (AreFronts most names texts)

-- the name of a file among others
pub record IsAmong (names : List (List ℕ)) (name : List ℕ) : Type 0 where
  pub before : List (List ℕ)
  pub behind : List (List ℕ)
  pub is : names ≡ before ++ name ∷ behind

-- the first file that is not there
pub record IsFirstLacking (names : List (List ℕ)) (name : List ℕ) (contents : Contents) : Type 0 where
  pub before : List (List ℕ)
  pub behind : List (List ℕ)
  pub is : names ≡ before ++ name ∷ behind
  pub others : AreThere before contents
  pub lacks : ¬ IsThere name contents

-- one file of a name was not read, and why
pub record IsLacking (name missing : List ℕ) (b a : ShelfState) : Type 0 where
  pub kept : IsKept b a
  pub quiet : a.faults ≡ b.faults
  pub named : missing ≡ name
  pub lacks : IfSome b.told (λ contents. ¬ IsThere name contents)

abbrev pub IsUnreadFile : List ℕ → ShelfState → ShelfState → SourceFail → Type 0
IsUnreadFile name b a NoMemory = IsKept b a
IsUnreadFile name b a (NotThere missing) = IsLacking name missing b a
IsUnreadFile name b a (Unread failed) = IsFailed (FileNamed name) failed b a

-- files were not read, and why: the first that is not there, where no call failed, or a count that rose
pub record IsMissingAmong (names : List (List ℕ)) (name : List ℕ) (b a : ShelfState) : Type 0 where
  pub kept : IsKept b a
  pub quiet : a.faults ≡ b.faults
  pub among : IsAmong names name
  pub first : IfSome b.told (IsFirstLacking names name)

pub record IsNameFailed (names : List (List ℕ)) (failed : Place) (b a : ShelfState) : Type 0 where
  pub kept : IsKept b a
  pub name : List ℕ
  pub named : failed ≡ FileNamed name
  pub among : IsAmong names name
  pub rose : Rose b.faults a.faults

abbrev pub AreUnread : List (List ℕ) → ShelfState → ShelfState → SourceFail → Type 0
AreUnread names b a NoMemory = IsKept b a
AreUnread names b a (NotThere name) = IsMissingAmong names name b a
AreUnread names b a (Unread failed) = IsNameFailed names failed b a

-- ## The files of a source

-- they were read, of which the first have these bytes
pub record IsSourceRead (most : ℕ) (options : Options) (files : List (List ℕ)) (read : SourceRead) (b a : ShelfState) : Type 0 where
  pub named : IsNamed options files read.named
  pub included : AreRead most read.named.names read.included b a

-- they were not
pub data IsSourceUnread (options : Options) (files : List (List ℕ)) (b a : ShelfState) (fail : SourceFail) : Type 0 where
  no_names : fail ≡ NoMemory → IsKept b a → IsSourceUnread options files b a fail
  unread : (named : NamedFiles) → IsNamed options files named → AreUnread named.names b a fail → IsSourceUnread options files b a fail
