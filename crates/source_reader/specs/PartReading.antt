-- What is read of the cards of included files.
use Rattle.std.specs.Prelude.{◌≡◌, ℕ, ◌+◌, ◌<◌, Bool, ◌||◌, List, [], ◌∷◌, length, map, slice_get, Option, Some, None, is_some, if◌then◌else◌}
use Rattle.f_tree.specs.declared.refusals.Kind.TheVariants.{EndOrIncludeInAnIncludedFile}
use Rattle.f_tree.specs.declared.refusals.Refusal.{Refusal}
use Rattle.fortran_text.specs.Cards.{cards_of}
use Rattle.fortran_text.specs.CharactersOfText.{is_end}
use Rattle.fortran_text.specs.FirstFault.{judged, too_long, FaultOfCards, IsFirst, IsSound}
use Rattle.fortran_text.specs.StatementsOfFile.{FileCards, file_cards}
use Rattle.fortran_text.specs.declared.source.Statement.{Statement}
use Rattle.cards.specs.Passes.{fault_from, first_of_included}
use Rattle.source_acceptance.specs.SourceFiles.{included_name}
use Rattle.source_reader.specs.Along.{Along}
use Rattle.source_reader.specs.SourceReading.{PartFault}
use Rattle.source_reader.specs.declared.included.PartRead.{PartRead}
use Rattle.source_reader.specs.declared.included.PartsRead.{PartsRead}

-- F47 at the first statement that is END or INCLUDE.
unfoldable pub ends_or_includes : Statement → Bool
ends_or_includes s = is_end s.text || is_some (included_name s)

unfoldable pub first_ending : ℕ → List Statement → Option Refusal
first_ending file [] = None
first_ending file (s ∷ ss) =
    if ends_or_includes s then Some (record { file = file; card = s.card; kind = EndOrIncludeInAnIncludedFile }) else first_ending file ss

-- How many cards an included file counts: all of them, or none where it has a fault of cards.
abbrev pub counted_where : {A : Type 0} → ℕ → Option A → ℕ
counted_where n None = n
counted_where n (Some fault) = 0

unfoldable pub counted_by : Bool → List ℕ → ℕ
counted_by refused bytes =
    counted_where (length (cards_of bytes)) (first_of_included (fault_from refused None 1 (judged bytes)) (too_long bytes))

-- What is read of an included file: its cards and F47, or the first fault of its cards.
abbrev pub PartIs : Bool → ℕ → List ℕ → Option FileCards → Option Refusal → Type 0
PartIs refused file bytes (Some cards) r =
    IsSound (FaultOfCards refused bytes) × (cards ≡ file_cards file bytes) × (r ≡ first_ending file cards.statements)
PartIs refused file bytes None (Some r) = (r.file ≡ file) × IsFirst (FaultOfCards refused bytes) r.card r.kind
PartIs refused file bytes None None = ⊥

abbrev pub IsPartRead : Bool → ℕ → List ℕ → PartRead → Type 0
IsPartRead refused file bytes part = PartIs refused file bytes part.cards part.refused

-- The cards of an included file that has no row.
pub record IsPartClear (refused : Bool) (first place : ℕ) (bytes : List ℕ) (cards : FileCards) : Type 0 where
  pub sound : IsSound (PartFault refused (first + place) bytes)
  pub cards_are : cards ≡ file_cards (first + place) bytes

-- The first row of included files, of which the first has a number.
pub record IsPartRefused (refused : Bool) (first : ℕ) (included : List (List ℕ)) (r : Refusal) : Type 0 where
  pub place : ℕ
  pub bytes : List ℕ
  pub is : slice_get included place ≡ Some bytes
  pub in_file : r.file ≡ first + place
  pub least : IsFirst (PartFault refused (first + place) bytes) r.card r.kind
  pub before : (j : ℕ) (b : List ℕ) → j < place → slice_get included j ≡ Some b → IsSound (PartFault refused (first + j) b)

abbrev pub PartsAre : Bool → ℕ → List (List ℕ) → List FileCards → Option Refusal → Type 0
PartsAre refused first included cards None = Along (IsPartClear refused first) 0 included cards
PartsAre refused first included cards (Some r) = IsPartRefused refused first included r

pub record IsPartsRead (refused : Bool) (first : ℕ) (included : List (List ℕ)) (parts : PartsRead) : Type 0 where
  pub counts : parts.counts ≡ map (counted_by refused) included
  pub are : PartsAre refused first included parts.cards parts.refused

-- The first of two refusals, of which the second stands behind.
abbrev pub or_else : Option Refusal → Option Refusal → Option Refusal
or_else None other = other
or_else (Some r) other = Some r

abbrev pub count_of : Option FileCards → ℕ
count_of None = 0
count_of (Some cards) = cards.cards
