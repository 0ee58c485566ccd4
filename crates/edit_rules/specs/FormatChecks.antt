-- Fronts of texts that are formats, or that can become formats. ANSI X3.9-1978, section 13.1.
use Rattle.std.specs.Prelude.{◌≡◌, ℕ, suc, ◌<◌, ◌≤◌, nat_lt, Some, IsTrue, ◌↔◌, List, ◌++◌, length, take}
use Rattle.std.specs.List.{list_all}
use Rattle.edit_meaning.specs.Formats.{Format}
use Rattle.edit_meaning.specs.FormatGrammar.{SpellsFormat, IsFormat}
use Rattle.edit_meaning.specs.FormatTexts.{format_of, format_end}

-- so many bytes of the text are a format
pub record IsFront (text : List ℕ) (size : ℕ) : Type 0 where
  pub format : Format
  pub within : size ≤ length text
  pub spelled : IsFormat format (take size text)

-- the front becomes a format with some bytes behind it
pub record IsCompletable (front : List ℕ) : Type 0 where
  pub tail : List ℕ
  pub format : Format
  pub bytes : IsTrue (list_all (λ c. nat_lt c 256) tail)
  pub spelled : IsFormat format (front ++ tail)

-- no front of the text is a format, and the place is the first at which no format goes on: the bytes before it can become a format, and
-- with the byte at the place they can not. It is the text's length where the text ends too early
pub record IsRefusedAt (text : List ℕ) (place : ℕ) : Type 0 where
  pub none : (size : ℕ) (format : Format) → ¬ IsFormat format (take size text)
  pub within : place ≤ length text
  pub before : IsCompletable (take place text)
  pub after : place < length text → (tail : List ℕ) (format : Format) → ¬ IsFormat format (take (suc place) text ++ tail)

-- a text has one front at most that is a format, and it spells one format
abbrev pub FormatsAreUnique : Type 0
FormatsAreUnique = (text : List ℕ) (one other : Format) (after behind : List ℕ) → SpellsFormat one text after → SpellsFormat other text behind
    → (one ≡ other) × (after ≡ behind)

-- what stands behind a format does not matter
abbrev pub FormatsAreFronts : Type 0
FormatsAreFronts = (text after : List ℕ) (format : Format) → SpellsFormat format text after ↔ ((front : List ℕ) × (text ≡ front ++ after) × IsFormat format front)

-- a format is given exactly where it is spelled at the front of the text
abbrev pub FormatOfIsSpelled : Type 0
FormatOfIsSpelled = (text : List ℕ) (format : Format) → (format_of text ≡ Some format) ↔ ((after : List ℕ) × SpellsFormat format text after)

-- and so is its number of bytes
abbrev pub FormatEndIsSpelled : Type 0
FormatEndIsSpelled = (text : List ℕ) (size : ℕ) → (format_end text ≡ Some size) ↔ IsFront text size
