-- Formatted input that goes no further beside why: where several causes stand together, which of them it is.
-- ANSI X3.9-1978, sections 13.3 and 13.5.
use Rattle.std.specs.Prelude.{ℕ, Option, None, Some, false, List, [], ◌∷◌, codes, replicate}
use Rattle.edit_meaning.specs.FormatTexts.{format_of}
use Rattle.edit_meaning.specs.Formats.{Format}
use Rattle.edit_meaning.specs.Halts.{Halt, Number, EndOfRecords, OtherType}
use Rattle.edit_meaning.specs.TakenRecords.{Want, WantInt, WantLogical, WantText, taken}

-- the text of a format, records, what the items want, and why the input goes no further
pub record Row : Type 0 where
  pub format : List ℕ
  pub records : List (List ℕ)
  pub wants : List Want
  pub halted : Option Halt

abbrev pub row : List ℕ → List (List ℕ) → List Want → Option Halt → Row
row format records wants halted = record { format = format; records = records; wants = wants; halted = halted }

abbrev pub under : Option Format → List (List ℕ) → List Want → Option (Option Halt)
under None records wants = None
under (Some format) records wants = Some (taken format records wants false).halted

abbrev pub found : Row → Option (Option Halt)
found row = under (format_of row.format) row.records row.wants

abbrev pub wanted : Row → Option (Option Halt)
wanted row = Some row.halted

unfoldable pub rows : List Row
rows =
    -- no integer, no logical, an integer past 32 bits
    row (codes "(I3)") (codes "1x3" ∷ []) (WantInt ∷ []) (Some (Number 1))
    ∷ row (codes "(L3)") (codes " .x" ∷ []) (WantLogical ∷ []) (Some (Number 2))
    ∷ row (codes "(I10)") (codes "2147483648" ∷ []) (WantInt ∷ []) (Some (Number 3))
    -- an item without a descriptor, where nothing came before
    ∷ row (codes "()") ([] ∷ []) (WantInt ∷ []) (Some (Number 4))
    ∷ row (codes "(1X)") ([] ∷ []) (WantInt ∷ []) (Some (Number 4))
    ∷ row (codes "(I1,(1X))") (codes "1" ∷ []) (WantInt ∷ WantInt ∷ []) (Some (Number 4))
    ∷ row (codes "(I1,(1X))") (codes "x" ∷ []) (WantInt ∷ WantInt ∷ []) (Some (Number 1))
    ∷ row (codes "(/)") ([] ∷ []) (WantInt ∷ []) (Some EndOfRecords)
    ∷ row (codes "('x')") ([] ∷ []) (WantInt ∷ []) (Some (Number 10))
    -- a position past column 1,025; before that the field has its value, and before that its type
    ∷ row (codes "(T1021,I4)") (codes "1" ∷ []) (WantInt ∷ []) None
    ∷ row (codes "(T1022,I4)") (codes "1" ∷ []) (WantInt ∷ []) (Some (Number 5))
    ∷ row (codes "(T1024,1X)") (codes "1" ∷ []) [] None
    ∷ row (codes "(T1024,2X)") (codes "1" ∷ []) [] (Some (Number 5))
    ∷ row (codes "(T1022,I4)") (replicate 1024 120 ∷ []) (WantInt ∷ []) (Some (Number 1))
    ∷ row (codes "(T1022,L4)") (replicate 1024 120 ∷ []) (WantLogical ∷ []) (Some (Number 2))
    ∷ row (codes "(T1022,I4)") (replicate 1024 120 ∷ []) (WantLogical ∷ []) (Some OtherType)
    ∷ row (codes "(T1022,L4)") (codes "1" ∷ []) (WantText 4 ∷ []) (Some OtherType)
    ∷ row (codes "(T1022,A4)") (codes "1" ∷ []) (WantInt ∷ []) (Some OtherType)
    -- the end of the records, and a record past column 1,024
    ∷ row (codes "(I1)") [] (WantInt ∷ []) (Some EndOfRecords)
    ∷ row (codes "(I1)") [] [] (Some EndOfRecords)
    ∷ row (codes "(I1/I1)") (codes "1" ∷ []) (WantInt ∷ WantInt ∷ []) (Some EndOfRecords)
    ∷ row (codes "(I1/I1)") (codes "x" ∷ []) (WantInt ∷ WantInt ∷ []) (Some (Number 1))
    ∷ row (codes "(I1)") (codes "1" ∷ []) (WantInt ∷ WantInt ∷ []) (Some EndOfRecords)
    ∷ row (codes "(I1)") (replicate 1025 49 ∷ []) (WantInt ∷ []) (Some (Number 5))
    -- a text of the format, before an item, behind the last one, and behind a colon
    ∷ row (codes "('x',I1)") (codes "y" ∷ []) (WantInt ∷ []) (Some (Number 10))
    ∷ row (codes "(I1,'x')") (codes "y" ∷ []) (WantInt ∷ []) (Some (Number 1))
    ∷ row (codes "(I1,'x')") (codes "1" ∷ []) (WantInt ∷ []) (Some (Number 10))
    ∷ row (codes "(I1,:,'x')") (codes "1" ∷ []) (WantInt ∷ []) None
    ∷ row (codes "(I1/'x')") (codes "1" ∷ []) (WantInt ∷ []) (Some EndOfRecords)
    ∷ []
