-- What a card is, by its columns 1 to 72, and its parts. ANSI X3.9-1978, section 3.2: a card is a comment, an initial card or a
-- continuation card. Section 3.4: statement labels.
use Rattle.std.specs.Prelude.{ℕ, Bool, true, false, not, ◌&&◌, ◌||◌, ◌==◌, nat_lt, List, drop, filter, replicate, slice_index, take, Option, Some, None, if◌then◌else◌}
use Rattle.std.specs.Char.{is_ascii_digit}
use Rattle.std.specs.List.{list_all}
use Rattle.std.specs.Str.Parse.{digits_value}
use Rattle.fortran_text.specs.CharactersOfText.{is_blank}
use Rattle.fortran_text.specs.declared.source.CardKind.{CardKind}
use Rattle.fortran_text.specs.declared.source.CardKind.TheVariants.{Comment, Initial, Continuation}

-- C, c or * in column 1, or blanks in columns 1 to 72, make a comment.
unfoldable pub is_comment : List ℕ → Bool
is_comment columns = slice_index columns 0 == 67 || slice_index columns 0 == 99 || slice_index columns 0 == 42 || list_all is_blank columns

-- & in column 1 makes a continuation card.
unfoldable pub has_ampersand : List ℕ → Bool
has_ampersand columns = slice_index columns 0 == 38

-- An initial card has a blank or 0 in column 6.
unfoldable pub begins_statement : List ℕ → Bool
begins_statement columns = slice_index columns 5 == 32 || slice_index columns 5 == 48

-- The kind by these tests: a comment, & in column 1, column 6.
unfoldable pub kind_by : Bool → Bool → Bool → CardKind
kind_by true ampersand begins = Comment
kind_by false true begins = Continuation
kind_by false false true = Initial
kind_by false false false = Continuation

unfoldable pub kind_of : List ℕ → CardKind
kind_of columns = kind_by (is_comment columns) (has_ampersand columns) (begins_statement columns)

-- Columns 1 to 5: the label field. A card with & in column 1 has none.
unfoldable pub field_of : List ℕ → List ℕ
field_of columns = if has_ampersand columns then replicate 5 32 else take 5 columns

-- The text of a card: columns 7 to 72, or 2 to 72 behind an & in column 1.
unfoldable pub text_of : List ℕ → List ℕ
text_of columns = if has_ampersand columns then drop 1 columns else drop 6 columns

-- A label is one to five digits in columns 1 to 5, not all zero. Leading zeros and blanks do not tell labels apart. A field that is neither
-- blank nor a label gives none.
unfoldable pub label_of_digits : List ℕ → Option ℕ
label_of_digits digits = if list_all is_ascii_digit digits && nat_lt 0 (digits_value 10 digits) then Some (digits_value 10 digits) else None

unfoldable pub label_of : List ℕ → Option ℕ
label_of field = label_of_digits (filter (λ c. not (is_blank c)) field)
