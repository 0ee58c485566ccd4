-- Formatted output of empty texts beside its records: an item of length 0 under A without a width writes nothing and extends no record.
-- ANSI X3.9-1978, sections 13.5.3 and 13.5.11.
use Rattle.std.specs.Prelude.{ℕ, pos, Option, None, Some, true, List, [], ◌∷◌, codes}
use Rattle.edit_meaning.specs.EditedRecords.{Sheet, Output, unit_sheet, internal_sheet, made_on}
use Rattle.edit_meaning.specs.FormatTexts.{format_of}
use Rattle.edit_meaning.specs.Formats.{Format}
use Rattle.edit_meaning.specs.Halts.{Halt, Number}
use Rattle.edit_meaning.specs.Listed.{ListedValue, Int, Text}

-- what the output may fill, the text of a format, values, the records, and why the output goes no further
pub record Row : Type 0 where
  pub sheet : Sheet
  pub format : List ℕ
  pub values : List ListedValue
  pub records : List (List ℕ)
  pub halted : Option Halt

abbrev pub row : Sheet → List ℕ → List ListedValue → List (List ℕ) → Option Halt → Row
row sheet format values records halted = record { sheet = sheet; format = format; values = values; records = records; halted = halted }

pub record Written : Type 0 where
  pub records : List (List ℕ)
  pub halted : Option Halt

abbrev pub written_by : Output → Written
written_by out = record { records = out.complete; halted = out.halted }

abbrev pub under : Option Format → Sheet → List ListedValue → Option Written
under None sheet values = None
under (Some format) sheet values = Some (written_by (made_on sheet format values true))

-- what a closed output of the values makes under the format that the text spells
abbrev pub found : Row → Option Written
found row = under (format_of row.format) row.sheet row.values

abbrev pub wanted : Row → Option Written
wanted row = Some (record { records = row.records; halted = row.halted })

unfoldable pub rows : List Row
rows =
    -- at the start of a record, behind positions, and behind a field
    row unit_sheet (codes "(A)") (Text [] ∷ []) ([] ∷ []) None
    ∷ row unit_sheet (codes "(T10,A)") (Text [] ∷ []) ([] ∷ []) None
    ∷ row unit_sheet (codes "(5X,A)") (Text [] ∷ []) ([] ∷ []) None
    ∷ row unit_sheet (codes "(I1,T10,A)") (Int (pos 1) ∷ Text [] ∷ []) (codes "1" ∷ []) None
    ∷ row unit_sheet (codes "(T3,A/T2,A)") (Text [] ∷ Text [] ∷ []) ([] ∷ [] ∷ []) None
    -- over what the record has
    ∷ row unit_sheet (codes "(I3,T1,A)") (Int (pos 123) ∷ Text [] ∷ []) (codes "123" ∷ []) None
    -- the position stays, and what comes behind it fills the gap
    ∷ row unit_sheet (codes "(T4,A,I1)") (Text [] ∷ Int (pos 7) ∷ []) (codes "   7" ∷ []) None
    ∷ row unit_sheet (codes "(I3,T2,A,I1)") (Int (pos 123) ∷ Text [] ∷ Int (pos 7) ∷ []) (codes "173" ∷ []) None
    -- a field of a width has its blanks
    ∷ row unit_sheet (codes "(T3,A2)") (Text [] ∷ []) (codes "    " ∷ []) None
    -- the position is judged all the same
    ∷ row (internal_sheet 1 5) (codes "(T6,A)") (Text [] ∷ []) ([] ∷ []) None
    ∷ row (internal_sheet 1 5) (codes "(T7,A)") (Text [] ∷ []) [] (Some (Number 5))
    ∷ row unit_sheet (codes "(T1024,1X,A)") (Text [] ∷ []) ([] ∷ []) None
    ∷ row unit_sheet (codes "(T1024,2X,A)") (Text [] ∷ []) [] (Some (Number 5))
    ∷ []
