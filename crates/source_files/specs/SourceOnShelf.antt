-- A source as a shelf holds it: places, and the files that they include. ANSI X3.9-1978, sections 3 to 15; MIL-STD-1753: INCLUDE.
use Rattle.std.specs.Prelude.{◌≡◌, ℕ, ◌<◌, ◌-◌, List, [], ◌∷◌, ◌++◌, length, take, map, Option, Some, None, slice_get}
use Rattle.f2c_outside.specs.declared.shelves.Place.{Place}
use Rattle.f2c_outside.specs.declared.shelves.Place.TheVariants.{Input, Output, Fault, File as FileNamed}
use Rattle.f2c_outside.specs.Shelf.{Contents, Lacks, bytes_of}
use Rattle.f2c_outside.specs.Texts.{IsName}
use Rattle.f_tree.specs.declared.names.Options.{Options}
use Rattle.f_tree.specs.declared.refusals.Refusal.{Refusal}
use Rattle.f_tree.specs.declared.units.FileSet.{FileSet}
use Rattle.source_reader.specs.fortran_text.FirstFault.{FaultOfFile, IsSound}
use Rattle.source_reader.specs.source_acceptance.SourceFiles.{Included, Source, mentioned_from, first_mentions}
use Rattle.source_reader.specs.source_verdict.SourceRows as verdict
use Rattle.source_reader.specs.source_verdict.SourceRows.{Purpose, Translation}

-- the names of the files that files include, each once, in the order of first mention
abbrev pub mentions : List (List ℕ) → List (List ℕ)
mentions files = first_mentions [] (mentioned_from 0 files)

-- the name of a place that is a file
abbrev pub name_of_place : Place → Option (List ℕ)
name_of_place (FileNamed name) = Some name
name_of_place Input = None
name_of_place Output = None
name_of_place Fault = None

-- the name of the file with a number: those of the places, and then those of the files that they include
abbrev pub name_by : List (List ℕ) → ℕ → Option Place → Option (List ℕ)
name_by names behind (Some place) = name_of_place place
name_by names behind None = slice_get names behind

abbrev pub name_of_file : List Place → List (List ℕ) → ℕ → Option (List ℕ)
name_of_file froms names file = name_by names (file - length froms) (slice_get froms file)

-- what places hold
abbrev pub files_on : Contents → List Place → List (List ℕ)
files_on contents places = map (λ place. bytes_of place contents) places

-- each of these places is there
unfoldable pub HasPlaces : List Place → Contents → Type 0
HasPlaces [] contents = Unit {0}
HasPlaces (place ∷ places) contents = (¬ Lacks place contents) × HasPlaces places contents

-- a file of this name is on the shelf
pub record IsThere (name : List ℕ) (contents : Contents) : Type 0 where
  pub is_name : IsName name
  pub there : ¬ Lacks (FileNamed name) contents

unfoldable pub AreThere : List (List ℕ) → Contents → Type 0
AreThere [] contents = Unit {0}
AreThere (name ∷ names) contents = IsThere name contents × AreThere names contents

-- the included files as the shelf holds them; one that is not there has no byte
unfoldable pub included_on : Contents → List (List ℕ) → List Included
included_on contents [] = []
included_on contents (name ∷ names) = record { name = name; bytes = bytes_of (FileNamed name) contents } ∷ included_on contents names

-- the source
abbrev pub source_on : Contents → List Place → Source
source_on contents froms = record { files = files_on contents froms; included = included_on contents (mentions (files_on contents froms)) }

-- the source is accepted for a purpose, with the trees that it spells
pub record IsAcceptedFor (purpose : Purpose) (options : Options) (source : Source) : Type 0 where
  pub set : FileSet
  pub is : verdict.IsAcceptedFor purpose options source set

-- the places are there, and this is the first refusal of their source
pub record IsRefusedFor (purpose : Purpose) (options : Options) (froms : List Place) (refusal : Refusal) (contents : Contents) : Type 0 where
  pub there : HasPlaces froms contents
  pub first : verdict.IsFirstRefusalFor purpose options (source_on contents froms) refusal

-- the same for a translation
abbrev pub IsAccepted : Options → Source → Type 0
IsAccepted options source = IsAcceptedFor Translation options source

abbrev pub IsRefused : Options → List Place → Refusal → Contents → Type 0
IsRefused options froms refusal contents = IsRefusedFor Translation options froms refusal contents

-- the first files, so many, have no fault of their cards
pub record AreSound (options : Options) (files : List (List ℕ)) (count : ℕ) : Type 0 where
  pub each : (file : ℕ) (bytes : List ℕ) → file < count → slice_get files file ≡ Some bytes → IsSound (FaultOfFile options.long_cards bytes)

-- the places are there, and the first of their files have no fault of their cards, so the files that these include are read; this is the first of
-- those that is not there
pub record IsMissing (options : Options) (froms : List Place) (name : List ℕ) (contents : Contents) : Type 0 where
  pub there : HasPlaces froms contents
  pub count : ℕ
  pub sound : AreSound options (files_on contents froms) count
  pub before : List (List ℕ)
  pub behind : List (List ℕ)
  pub mentioned : mentions (take count (files_on contents froms)) ≡ before ++ name ∷ behind
  pub others : AreThere before contents
  pub lacks : ¬ IsThere name contents

-- the first of the places that is not there
pub record IsFirstAway (froms : List Place) (place : Place) (contents : Contents) : Type 0 where
  pub before : List Place
  pub behind : List Place
  pub is : froms ≡ before ++ place ∷ behind
  pub others : HasPlaces before contents
  pub lacks : Lacks place contents
