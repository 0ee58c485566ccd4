-- The faults of a file at its cards, and the first of them: the least card, and there the least number of a row.
use Rattle.std.specs.Prelude.{◌≡◌, ℕ, suc, ◌≤◌, Bool, true, nat_lt, List, [], ◌∷◌, length, take, min, slice_get, Option, Some, None, if◌then◌else◌}
use Rattle.f_tree.specs.RefusalRows.{number_of}
use Rattle.f_tree.specs.declared.refusals.Fail.{Fail}
use Rattle.f_tree.specs.declared.refusals.Fail.TheVariants.{NoMemory, Refused}
use Rattle.f_tree.specs.declared.refusals.Kind.{Kind}
use Rattle.f_tree.specs.declared.refusals.Kind.TheVariants.{NoEnd, FileTooLong}
use Rattle.fortran_text.specs.CardRows.{open_after, holds}
use Rattle.fortran_text.specs.Cards.{Card, cards_of}
use Rattle.fortran_text.specs.CharactersOfText.{is_end}
use Rattle.fortran_text.specs.Lines.{lines}
use Rattle.fortran_text.specs.StatementsOfFile.{statements}
use Rattle.fortran_text.specs.declared.source.Statement.{Statement}

-- The longest file, in bytes and in cards.
unfoldable pub most_bytes : ℕ
most_bytes = 16777216

unfoldable pub most_cards : ℕ
most_cards = 65536

-- The cards that are judged: those of the first bytes, up to the limits.
unfoldable pub judged : List ℕ → List Card
judged bytes = take most_cards (cards_of (take most_bytes bytes))

-- The number of the card that has the byte with a number, both from 1.
unfoldable pub card_of_byte : ℕ → List ℕ → ℕ
card_of_byte number bytes = length (lines (take number bytes))

unfoldable pub lesser : Option ℕ → Option ℕ → Option ℕ
lesser None other = other
lesser (Some a) None = Some a
lesser (Some a) (Some b) = Some (min a b)

-- F07: the first of the card past the limit and the card with the byte past the limit.
unfoldable pub too_long : List ℕ → Option ℕ
too_long bytes =
    lesser
    (if nat_lt most_cards (length (lines bytes)) then Some (suc most_cards) else None)
    (if nat_lt most_bytes (length bytes) then Some (card_of_byte (suc most_bytes) bytes) else None)

-- F06: the initial card of the last statement, where that is not END.
unfoldable pub unended : List Statement → Option ℕ
unended [] = None
unended (s ∷ []) = if is_end s.text then None else Some s.card
unended (s ∷ t ∷ more) = unended (t ∷ more)

-- The faults that an included file may have: those of one card, and F07. `refused` says that text past column 72 is refused.
pub data FaultOfCards (refused : Bool) (bytes : List ℕ) (card : ℕ) (kind : Kind) : Type 0 where
  at_card : (place : ℕ) (found : Card) → card ≡ suc place → slice_get (judged bytes) place ≡ Some found
      → holds refused (open_after None (take place (judged bytes))) found kind ≡ true → FaultOfCards refused bytes card kind
  past_limit : too_long bytes ≡ Some card → kind ≡ FileTooLong → FaultOfCards refused bytes card kind

-- The faults of a file: those, and F06, which is not judged in a file that is too long.
pub data FaultOfFile (refused : Bool) (bytes : List ℕ) (card : ℕ) (kind : Kind) : Type 0 where
  of_cards : FaultOfCards refused bytes card kind → FaultOfFile refused bytes card kind
  not_ended : too_long bytes ≡ None → unended (statements 0 1 (cards_of bytes)) ≡ Some card → kind ≡ NoEnd → FaultOfFile refused bytes card kind

-- The first of some faults.
pub record IsFirst (Fault : ℕ → Kind → Type 0) (card : ℕ) (kind : Kind) : Type 0 where
  pub is : Fault card kind
  pub least : (c : ℕ) (k : Kind) → Fault c k → card ≤ c
  pub least_number : (c : ℕ) (k : Kind) → Fault c k → c ≡ card → number_of kind ≤ number_of k

-- There is no fault.
abbrev pub IsSound : (ℕ → Kind → Type 0) → Type 0
IsSound Fault = (card : ℕ) (kind : Kind) → Fault card kind → ⊥

-- A failure is want of memory, or the refusal of the file with the number by its first fault.
abbrev pub IsFailure : ℕ → (ℕ → Kind → Type 0) → Fail → Type 0
IsFailure file Fault NoMemory = Unit {0}
IsFailure file Fault (Refused r) = (r.file ≡ file) × IsFirst Fault r.card r.kind
