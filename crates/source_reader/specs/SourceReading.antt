-- What is read of the cards of a source.
use Rattle.std.specs.Prelude.{◌≡◌, ℕ, ◌≤◌, Bool, List, [], ◌∷◌, length, take, slice_get, Option, Some, None}
use Rattle.f_tree.specs.declared.names.Options.{Options}
use Rattle.f_tree.specs.declared.refusals.Kind.{Kind}
use Rattle.f_tree.specs.declared.refusals.Kind.TheVariants.{EndOrIncludeInAnIncludedFile}
use Rattle.f_tree.specs.declared.refusals.Refusal.{Refusal}
use Rattle.f_tree.specs.Setting.{IsIn}
use Rattle.fortran_text.specs.FirstFault.{FaultOfCards, FaultOfFile, IsFirst, IsSound}
use Rattle.fortran_text.specs.StatementsOfFile.{FileCards, file_cards}
use Rattle.fortran_text.specs.declared.source.Statement.{Statement}
use Rattle.source_acceptance.specs.SourceFiles.{Included, statements_in, mentioned_from, first_mentions}
use Rattle.source_acceptance.specs.Acceptance.{EndsOrIncludes}
use Rattle.source_reader.specs.Along.{Along}
use Rattle.source_reader.specs.declared.named.NamedFiles.{NamedFiles}

-- The cards of a file that has no fault.
pub record IsFileRead (refused : Bool) (file : ℕ) (bytes : List ℕ) (cards : FileCards) : Type 0 where
  pub sound : IsSound (FaultOfFile refused bytes)
  pub cards_are : cards ≡ file_cards file bytes

-- The first fault of the file at a place.
pub record IsRefusedAt (refused : Bool) (files : List (List ℕ)) (place : ℕ) (r : Refusal) : Type 0 where
  pub bytes : List ℕ
  pub is : slice_get files place ≡ Some bytes
  pub in_file : r.file ≡ place
  pub first : IsFirst (FaultOfFile refused bytes) r.card r.kind

abbrev pub IsStop : Bool → List (List ℕ) → ℕ → Option Refusal → Type 0
IsStop refused files place None = length files ≤ place
IsStop refused files place (Some r) = IsRefusedAt refused files place r

pub record AreFilesRead (refused : Bool) (files : List (List ℕ)) (cards : List FileCards) (r : Option Refusal) : Type 0 where
  pub read : Along (IsFileRead refused) 0 (take (length cards) files) cards
  pub stop : IsStop refused files (length cards) r

-- The files that are named: the cards of those before the first that has a fault, that fault, and the names that those before it mention, each
-- once and in the order of first mention.
pub record IsNamed (options : Options) (files : List (List ℕ)) (named : NamedFiles) : Type 0 where
  pub read : Along (IsFileRead options.long_cards) 0 (take (length named.files) files) named.files
  pub stop : IsStop options.long_cards files (length named.files) named.refused
  pub names : named.names ≡ first_mentions [] (mentioned_from 0 (take (length named.files) files))

-- A row at the cards of an included file.
pub data PartFault (refused : Bool) (file : ℕ) (bytes : List ℕ) (card : ℕ) (kind : Kind) : Type 0 where
  of_part : FaultOfCards refused bytes card kind → PartFault refused file bytes card kind
  ends_or_includes : (s : Statement) → IsSound (FaultOfCards refused bytes) → IsIn s (statements_in file bytes) → EndsOrIncludes s → card ≡ s.card
      → kind ≡ EndOrIncludeInAnIncludedFile → PartFault refused file bytes card kind

-- The names and the bytes of included files.
unfoldable pub entries : List (List ℕ) → List (List ℕ) → List Included
entries (name ∷ names) (bytes ∷ more) = record { name = name; bytes = bytes } ∷ entries names more
entries _ _ = []
