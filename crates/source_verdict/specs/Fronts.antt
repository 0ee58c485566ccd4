-- What is read of a source: the front of each file, with one byte more than a file may have; so a longer file is told from it. The files that are
-- mentioned behind the first file with a fault of its cards are not read.
use Rattle.std.specs.Prelude.{◌≡◌, ℕ, suc, ◌<◌, ◌≤◌, List, [], ◌∷◌, ◌++◌, length, take, map}
use Rattle.refusal_order.specs.f_tree.declared.names.Options.{Options}
use Rattle.refusal_order.specs.f_tree.declared.refusals.Refusal.{Refusal}
use Rattle.refusal_order.specs.f_tree.declared.units.FileSet.{FileSet}
use Rattle.refusal_order.specs.fortran_text.FirstFault.{most_bytes}
use Rattle.source_acceptance.specs.SourceFiles.{Included, Source, mentioned_from, first_mentions, IsWhole}
use Rattle.source_verdict.specs.SourceRows.{Purpose, Translation, IsFirstRefusalFor, IsAcceptedFor}

abbrev pub front_of : List ℕ → List ℕ
front_of bytes = take (suc most_bytes) bytes

unfoldable pub fronts : List Included → List Included
fronts [] = []
fronts (i ∷ more) = record { name = i.name; bytes = front_of i.bytes } ∷ fronts more

-- A source with these files, that has each file that is included, and of these first those that are given.
pub record IsSourceOf (files : List (List ℕ)) (given : List Included) (source : Source) : Type 0 where
  pub files_are : source.files ≡ files
  pub whole : IsWhole source
  pub rest : List Included
  pub included : source.included ≡ given ++ rest

-- A refusal is the first one of each source with these files and these included files.
abbrev pub IsFirstOfAllFor : Purpose → Options → List (List ℕ) → List Included → Refusal → Type 0
IsFirstOfAllFor purpose options files given r = (source : Source) → IsSourceOf files given source → IsFirstRefusalFor purpose options source r

abbrev pub IsFirstOfAll : Options → List (List ℕ) → List Included → Refusal → Type 0
IsFirstOfAll options files given r = IsFirstOfAllFor Translation options files given r

-- A source of which fronts were read: those of its files, and those of the first files that they include, of which none is mentioned only by a file that
-- is too long or behind it.
pub record IsReadOf (files : List (List ℕ)) (read : List Included) (source : Source) : Type 0 where
  pub files_are : source.files ≡ files
  pub whole : IsWhole source
  pub rest : List Included
  pub included : fronts source.included ≡ read ++ rest
  pub within : (before : List (List ℕ)) (long : List ℕ) (behind : List (List ℕ)) → files ≡ before ++ long ∷ behind → most_bytes < length long
      → length read ≤ length (first_mentions [] (mentioned_from 0 before))

-- LAWS
-- what is refused by fronts is refused
abbrev pub RefusedByFronts : Type 0
RefusedByFronts = (purpose : Purpose) (options : Options) (files : List (List ℕ)) (read : List Included) (r : Refusal) (source : Source) →
    IsFirstOfAllFor purpose options (map front_of files) read r → IsReadOf files read source → IsFirstRefusalFor purpose options source r

-- what is accepted by fronts is accepted: each file was read whole
abbrev pub AcceptedByFronts : Type 0
AcceptedByFronts = (purpose : Purpose) (options : Options) (files : List (List ℕ)) (read : List Included) (set : FileSet) (source : Source) →
    IsAcceptedFor purpose options (record { files = map front_of files; included = read }) set → source.files ≡ files →
    fronts source.included ≡ read → source ≡ record { files = map front_of files; included = read }
