-- What an edit descriptor takes from its field, or the number of the error: 1 where there is no integer, 2 where there is no logical,
-- 3 where the integer needs more than 32 bits. ANSI X3.9-1978, sections 13.5.8 and 13.5.9.1 (integers and blanks), 13.5.10 (logicals)
-- and 13.5.11 (characters).
use Rattle.std.specs.Prelude.{ℕ, ℤ, pos, neg_ℤ, ◌+◌, ◌-◌, ◌*◌, ◌^◌, min, not, ◌==◌, nat_lt, nat_le, Bool, true, false, ◌&&◌, if◌then◌else◌, Result, Ok, Err, List, [], ◌∷◌, ◌++◌, length, drop, replicate}
use Rattle.std.specs.Str.{all_ascii_digits}
use Rattle.std.specs.Str.Parse.{digits_value}

-- the field without its leading blanks, which mean nothing
abbrev pub behind_blanks : List ℕ → List ℕ
behind_blanks [] = []
behind_blanks (c ∷ cs) = if c == 32 then behind_blanks cs else c ∷ cs

-- the other characters, in which a blank is a zero or is left out
abbrev pub with_blanks_as : Bool → List ℕ → List ℕ
with_blanks_as zeros [] = []
with_blanks_as true (c ∷ cs) = (if c == 32 then 48 else c) ∷ with_blanks_as true cs
with_blanks_as false (c ∷ cs) = if c == 32 then with_blanks_as false cs else c ∷ with_blanks_as false cs

-- one digit at least, and nothing else
abbrev pub is_number : List ℕ → Bool
is_number [] = false
is_number (digit ∷ digits) = all_ascii_digits (digit ∷ digits)

-- the integer of 32 bits of this sign and size
abbrev pub signed_int : Bool → ℕ → Result ℤ ℕ
signed_int true size = if nat_le size (2 ^ 31) then Ok (neg_ℤ (pos size)) else Err 3
signed_int false size = if nat_lt size (2 ^ 31) then Ok (pos size) else Err 3

abbrev pub int_of : Bool → List ℕ → Result ℤ ℕ
int_of negative digits = if is_number digits then signed_int negative (digits_value 10 digits) else Err 1

-- an optional sign and digits; zero where all is blank
abbrev pub int_behind_blanks : Bool → List ℕ → Result ℤ ℕ
int_behind_blanks zeros [] = Ok (pos 0)
int_behind_blanks zeros (c ∷ cs) =
    if c == 45 then int_of true (with_blanks_as zeros cs)
    else (if c == 43 then int_of false (with_blanks_as zeros cs) else int_of false (with_blanks_as zeros (c ∷ cs)))

-- the integer in a field of Iw, where inner and trailing blanks are zeros or nothing
unfoldable pub int_in : List ℕ → Bool → Result ℤ ℕ
int_in field zeros = int_behind_blanks zeros (behind_blanks field)

abbrev pub behind_point : List ℕ → List ℕ
behind_point [] = []
behind_point (c ∷ cs) = if c == 46 then cs else c ∷ cs

-- T or F, and then anything
abbrev pub truth_of : List ℕ → Result Bool ℕ
truth_of [] = Err 2
truth_of (c ∷ cs) = if c == 84 then Ok true else (if c == 70 then Ok false else Err 2)

-- the logical in a field of Lw: blanks, an optional point, T or F
unfoldable pub logical_in : List ℕ → Result Bool ℕ
logical_in field = truth_of (behind_point (behind_blanks field))

-- the text that an item of a length takes from a field of Aw: the rightmost characters of a longer field, blanks behind those of a shorter one
unfoldable pub text_in : List ℕ → ℕ → List ℕ
text_in field size = drop (length field - size) field ++ replicate (size - length field) 32

-- a size with one more character behind it, as far as 64 bits go
abbrev pub next_size : Bool → ℕ → ℕ → ℕ
next_size zeros size c = if c == 32 && not zeros then size else min (min (size * 10) (2 ^ 64 - 1) + (c - 48)) (2 ^ 64 - 1)
