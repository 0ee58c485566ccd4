-- Formats and values beside whether the values stand whole in the records, so that the records are read back, and whether their fields
-- follow one another.
-- ANSI X3.9-1978, sections 13.3 and 13.5.
use Rattle.std.specs.Prelude.{ℕ, pos, negsuc, Bool, true, false, Option, None, Some, List, [], ◌∷◌, codes}
use Rattle.edit_meaning.specs.EditedRecords.{unit_sheet}
use Rattle.edit_meaning.specs.FormatTexts.{format_of}
use Rattle.edit_meaning.specs.Formats.{Format}
use Rattle.edit_meaning.specs.Listed.{ListedValue, Int, Logical, Text}
use Rattle.edit_meaning.specs.ReadBack.{stand_whole, follow_one_another}

-- the text of a format, values, whether they stand whole, and whether their fields follow one another
pub record Row : Type 0 where
  pub format : List ℕ
  pub values : List ListedValue
  pub whole : Bool
  pub follow : Bool

abbrev pub row : List ℕ → List ListedValue → Bool → Bool → Row
row format values whole follow = record { format = format; values = values; whole = whole; follow = follow }

pub record Stand : Type 0 where
  pub whole : Bool
  pub follow : Bool

abbrev pub under : Option Format → List ListedValue → Option Stand
under None values = None
under (Some format) values = Some (record { whole = stand_whole unit_sheet format values; follow = follow_one_another format values })

abbrev pub found : Row → Option Stand
found row = under (format_of row.format) row.values

abbrev pub wanted : Row → Option Stand
wanted row = Some (record { whole = row.whole; follow = row.follow })

unfoldable pub rows : List Row
rows =
    -- repeats, groups, reversion and slashes
    row (codes "(I3,2(1X,I2.2)/)") (Int (pos 1) ∷ Int (pos 2) ∷ Int (pos 3) ∷ Int (pos 4) ∷ Int (pos 5) ∷ Int (negsuc 6) ∷ []) false false
    ∷ row (codes "(I3,2(1X,I2.2)/)") (Int (pos 1) ∷ Int (pos 2) ∷ Int (pos 3) ∷ Int (pos 4) ∷ Int (pos 5) ∷ Int (pos 6) ∷ []) true true
    ∷ row (codes "(I1,(I2,I3))") (Int (pos 1) ∷ Int (pos 2) ∷ Int (pos 3) ∷ Int (pos 4) ∷ Int (pos 5) ∷ []) true true
    ∷ row (codes "(L2,I3,A2)") (Logical true ∷ Int (pos 5) ∷ Text (codes "xy") ∷ Logical false ∷ Int (negsuc 4) ∷ Text (codes "zw") ∷ []) true true
    -- an integer of one column too few, a plus sign that needs one, and a zero without a digit
    ∷ row (codes "(I4)") (Int (pos 1234) ∷ []) true true
    ∷ row (codes "(I4)") (Int (negsuc 1233) ∷ []) false false
    ∷ row (codes "(SP,I4)") (Int (pos 1234) ∷ []) false false
    ∷ row (codes "(SP,I4,SS,I4)") (Int (pos 123) ∷ Int (pos 1234) ∷ []) true true
    ∷ row (codes "(I3.0)") (Int (pos 0) ∷ []) true true
    -- texts in narrower and wider fields, and without a width
    ∷ row (codes "(A2)") (Text (codes "abc") ∷ []) false false
    ∷ row (codes "(A3,A5,A)") (Text (codes "abc") ∷ Text (codes "d e") ∷ Text (codes " f") ∷ []) true true
    -- positions to the right, to the left over blanks, and to the left over a field
    ∷ row (codes "(T5,I2,3X,I2)") (Int (pos 1) ∷ Int (pos 2) ∷ []) true false
    ∷ row (codes "(9X,TL4,I2)") (Int (pos 1) ∷ []) true false
    ∷ row (codes "(T5,I2,T1,I2)") (Int (pos 1) ∷ Int (pos 2) ∷ []) false false
    -- a text of the format, before a value, behind the last one, and behind a colon
    ∷ row (codes "('x=',I2)") (Int (pos 1) ∷ []) false false
    ∷ row (codes "(I2,'x')") (Int (pos 1) ∷ []) false false
    ∷ row (codes "(I2,:,'x')") (Int (pos 1) ∷ []) true true
    -- blanks as zeros
    ∷ row (codes "(BZ,I5,BN,I5)") (Int (pos 10) ∷ Int (negsuc 9) ∷ []) true true
    ∷ []
