-- The pieces of a concatenation, as they are put together in a buffer (ANSI X3.9-1978, 6.2.2.2).
use Rattle.std.specs.Prelude.{◌≡◌, ℕ, ◌+◌, ◌≤◌, ◌<◌, ◌^◌, List, length, Result, Ok, Err, MatchResult}
use Rattle.c_tree.specs.declared.outcome.CValue.{CValue}
use Rattle.c_tree.specs.declared.outcome.CValue.TheVariants.{Pointer}
use Rattle.c_tree.specs.declared.outcome.CFault.{CFault}
use Rattle.c_tree.specs.Faults.{Or, after, failing}
use Rattle.c_tree.specs.Access.{ToChar, ToPointer}
use Rattle.c_tree.specs.Objects.{Object, fetched}
use Rattle.c_tree.specs.LibraryArguments.{number_through, count_from, text_at}
use Rattle.library_texts.specs.Gathered.{Gathers}

-- the piece whose address and length stand at two places
abbrev pub piece_at : List Object → CValue → CValue → Or (List ℕ)
piece_at objects address length =
    after (fetched objects (record { at = address; access = ToPointer ToChar })) λ held.
    after (number_through objects length) λ number.
    after (count_from number) λ size.
    text_at objects held.value size

-- the first `used` bytes of a buffer hold a text, cut where the buffer ends
pub record Holds (text buffer : List ℕ) (used : ℕ) : Type 0 where
  pub gathered : Gathers buffer used text
  pub within : used ≤ length buffer

-- a buffer holds the text, or its fault is answered
abbrev pub Collects : Or (List ℕ) → List ℕ → Result ℕ CFault → Type 0
Collects pieces buffer (Ok used) = (text : List ℕ) × (pieces ≡ Ok text) × Holds text buffer used
Collects pieces buffer (Err fault) = pieces ≡ failing fault

-- what stands so many bytes or values behind has a number of 64 bits
abbrev pub CanShift : ℕ → CValue → Type 0
CanShift distance (Pointer object offset) = offset + distance < 2 ^ 64
CanShift distance other = Unit {0}
