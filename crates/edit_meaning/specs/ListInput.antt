-- List-directed input: what stands next in a record for an item. ANSI X3.9-1978, section 13.6.1.
-- The errors are 1 where there is no integer, or a text in apostrophes that ends wrongly, 2 where there is no logical, and 3 where an
-- integer needs more than 32 bits.
use Rattle.std.specs.Prelude.{ℕ, zero, suc, ℤ, ◌-◌, ◌==◌, nat_lt, nat_le, Bool, true, false, not, ◌&&◌, ◌||◌, if◌then◌else◌, Option, None, Some, Result, Ok, Err, List, [], ◌∷◌, ◌++◌, take, drop}
use Rattle.std.specs.List.{position_or_len}
use Rattle.std.specs.Char.{is_ascii_digit}
use Rattle.std.specs.Str.Parse.{digits_value}
use Rattle.edit_meaning.specs.TakenFields.{int_of}

-- the kinds of items
pub data Kind : Type 0 where
  IntItem : Kind
  LogicalItem : Kind
  TextItem : Kind

-- a place in the input, with the rest of its record
pub data Place : Type 0 where
  -- between values; whether there was one since the last comma or the start
  Between : Bool → List ℕ → Place
  -- before a constant that stands for so many values more after the next one
  Repeated : ℕ → List ℕ → Place
  -- so many nulls more after the next one
  Nulls : ℕ → List ℕ → Place
  -- inside a text in apostrophes that stands for so many values more, from the constant's start
  Inside : ℕ → List ℕ → List ℕ → Place

-- what an item is given, and the place after it
pub data Given : Type 0 where
  Number : ℤ → Place → Given
  Truth : Bool → Place → Given
  -- characters of a text; whether it goes on
  Piece : List ℕ → Bool → Place → Given
  Null : Place → Given
  Slash : Given
  -- the record is used up: the place at an empty record
  NeedRecord : Place → Given
  Wrong : ℕ → Given

-- blanks, commas and slashes separate values
abbrev pub is_separator : ℕ → Bool
is_separator c = c == 32 || (c == 44 || c == 47)

-- what stands behind the separators before an item
pub data Sought : Type 0 where
  AtEnd : Bool → Sought
  AtNull : List ℕ → Sought
  AtSlash : Sought
  AtValue : List ℕ → Sought

-- blanks are passed, and one comma behind a value; a comma with no value before it is a null
abbrev pub sought : Bool → List ℕ → Sought
sought valued [] = AtEnd valued
sought valued (c ∷ cs) =
    if c == 32 || (c == 44 && valued) then sought (valued && c == 32) cs
    else (if c == 44 then AtNull cs else (if c == 47 then AtSlash else AtValue (c ∷ cs)))

-- the digits at the front
abbrev pub digit_count : List ℕ → ℕ
digit_count text = position_or_len (λ c. not (is_ascii_digit c)) text

abbrev pub begins_with : ℕ → List ℕ → Bool
begins_with wanted [] = false
begins_with wanted (c ∷ cs) = c == wanted

-- a repeat count is from 1 to 32,767
abbrev pub count_of : ℕ → Option ℕ
count_of number = if nat_lt 0 number && nat_le number 32767 then Some number else None

-- the repeat count before an asterisk, where one stands in front
abbrev pub count_before : List ℕ → Option ℕ
count_before text =
    if begins_with 42 (drop (digit_count text) text) then count_of (digits_value 10 (take (digit_count text) text)) else None

-- the characters up to the next separator, and what stands behind them
abbrev pub word_length : List ℕ → ℕ
word_length text = position_or_len is_separator text

-- an integer: an optional sign and digits
abbrev pub int_word : List ℕ → Result ℤ ℕ
int_word [] = Err 1
int_word (c ∷ cs) = if c == 45 then int_of true cs else (if c == 43 then int_of false cs else int_of false (c ∷ cs))

abbrev pub truth_letter : List ℕ → Result Bool ℕ
truth_letter [] = Err 2
truth_letter (c ∷ cs) = if c == 84 || c == 116 then Ok true else (if c == 70 || c == 102 then Ok false else Err 2)

-- a logical: an optional point, T or F in either case, and then anything
abbrev pub logical_word : List ℕ → Result Bool ℕ
logical_word [] = Err 2
logical_word (c ∷ cs) = if c == 46 then truth_letter cs else truth_letter (c ∷ cs)

-- the place behind a constant that stands for so many values more
abbrev pub behind_constant : ℕ → List ℕ → List ℕ → Place
behind_constant zero constant rest = Between true rest
behind_constant (suc more) constant rest = Repeated more constant

abbrev pub given_number : Result ℤ ℕ → Place → Given
given_number (Ok number) place = Number number place
given_number (Err error) place = Wrong error

abbrev pub given_truth : Result Bool ℕ → Place → Given
given_truth (Ok truth) place = Truth truth place
given_truth (Err error) place = Wrong error

-- how the rest of a text in apostrophes ends in its record: not at all, before a separator or the record's end, or before another character
pub data Ending : Type 0 where
  Open : Ending
  Well : Ending
  Badly : Ending

-- `quoted` says that an apostrophe stands before; two of them are one character of the text
abbrev pub ending : Bool → List ℕ → Ending
ending false [] = Open
ending true [] = Well
ending false (c ∷ cs) = ending (c == 39) cs
ending true (c ∷ cs) = if c == 39 then ending false cs else (if is_separator c then Well else Badly)

abbrev pub run_length : List ℕ → ℕ
run_length text = position_or_len (λ c. c == 39) text

-- the characters up to the next apostrophe; a doubled apostrophe is one more, and a single one ends the text
abbrev pub piece_before : ℕ → List ℕ → List ℕ → List ℕ → Given
piece_before more constant run [] = Piece run true (Inside more constant [])
piece_before more constant run (quote ∷ []) = Piece run false (behind_constant more constant [])
piece_before more constant run (quote ∷ c ∷ cs) =
    if c == 39 then Piece (run ++ quote ∷ []) true (Inside more constant cs) else Piece run false (behind_constant more constant (c ∷ cs))

abbrev pub piece_by : Ending → ℕ → List ℕ → List ℕ → Given
piece_by Badly more constant text = Wrong 1
piece_by Well more constant text = piece_before more constant (take (run_length text) text) (drop (run_length text) text)
piece_by Open zero constant text = piece_before zero constant (take (run_length text) text) (drop (run_length text) text)
piece_by Open (suc more) constant text = Wrong 1

-- a piece of a text in apostrophes. One that is repeated has to end in its record
abbrev pub piece : ℕ → List ℕ → List ℕ → Given
piece more constant text = piece_by (ending false text) more constant text

abbrev pub text_constant : ℕ → List ℕ → List ℕ → Given
text_constant more constant [] = Piece [] false (behind_constant more constant [])
text_constant more constant (c ∷ cs) =
    if c == 39 then piece more constant cs
    else Piece (take (word_length (c ∷ cs)) (c ∷ cs)) false (behind_constant more constant (drop (word_length (c ∷ cs)) (c ∷ cs)))

-- the value of the constant at the front of the rest
abbrev pub constant_as : Kind → ℕ → List ℕ → Given
constant_as IntItem more rest = given_number (int_word (take (word_length rest) rest)) (behind_constant more rest (drop (word_length rest) rest))
constant_as LogicalItem more rest = given_truth (logical_word (take (word_length rest) rest)) (behind_constant more rest (drop (word_length rest) rest))
constant_as TextItem more rest = text_constant more rest rest

abbrev pub nulls : ℕ → List ℕ → Given
nulls zero rest = Null (Between true rest)
nulls (suc more) rest = Null (Nulls more rest)

-- a constant behind a repeat count, or nulls where there is none
abbrev pub repeated_as : Kind → ℕ → List ℕ → Given
repeated_as kind more rest = if nat_lt 0 (word_length rest) then constant_as kind more rest else nulls more rest

abbrev pub counted_as : Kind → Option ℕ → List ℕ → Given
counted_as kind None rest = constant_as kind 0 rest
counted_as kind (Some count) rest = repeated_as kind (count - 1) (drop 1 (drop (digit_count rest) rest))

abbrev pub value_as : Kind → List ℕ → Given
value_as kind rest = counted_as kind (count_before rest) rest

abbrev pub given_behind : Kind → Sought → Given
given_behind kind (AtEnd valued) = NeedRecord (Between valued [])
given_behind kind (AtNull rest) = Null (Between false rest)
given_behind kind AtSlash = Slash
given_behind kind (AtValue rest) = value_as kind rest

-- what an item gets inside a text, which goes on in the next record
abbrev pub inside : ℕ → List ℕ → List ℕ → Given
inside zero constant [] = NeedRecord (Inside 0 [] [])
inside (suc more) constant [] = Wrong 1
inside more constant (c ∷ cs) = piece more constant (c ∷ cs)

-- what an item of this kind is given at a place
unfoldable pub given : Place → Kind → Given
given (Between valued rest) kind = given_behind kind (sought valued rest)
given (Repeated more rest) kind = constant_as kind more rest
given (Nulls more rest) kind = nulls more rest
given (Inside more constant rest) kind = inside more constant rest
