-- What an edit descriptor writes in its field. ANSI X3.9-1978, sections 13.5.9.1 (integers), 13.5.10 (logicals) and 13.5.11 (characters).
use Rattle.std.specs.Prelude.{ℕ, ℤ, pos, negsuc, ◌-◌, ◌==◌, nat_le, Bool, true, false, ◌&&◌, if◌then◌else◌, Option, unwrap_or, List, [], ◌∷◌, ◌++◌, length, take, replicate, unsigned_abs}
use Rattle.std.specs.Fmt.{decimal}

-- a text at the right end of a field, behind blanks; asterisks where the field is too narrow
abbrev pub right_in : ℕ → List ℕ → List ℕ
right_in width text = if nat_le (length text) width then replicate (width - length text) 32 ++ text else replicate width 42

-- a minus sign where the number is negative; otherwise a plus sign where plus signs are written
abbrev pub sign_of : ℤ → Bool → List ℕ
sign_of (pos size) true = 43 ∷ []
sign_of (pos size) false = []
sign_of (negsuc size) plus = 45 ∷ []

-- digits with leading zeros up to the least number of them
abbrev pub with_zeros : ℕ → List ℕ → List ℕ
with_zeros least digits = replicate (least - length digits) 48 ++ digits

-- the characters of an integer: none for zero where no digit is asked for; one digit at least where nothing is said
abbrev pub int_text : ℤ → Option ℕ → Bool → List ℕ
int_text number least plus =
    if unsigned_abs number == 0 && unwrap_or least 1 == 0 then []
    else sign_of number plus ++ with_zeros (unwrap_or least 1) (decimal (unsigned_abs number))

-- the field of Iw or Iw.m
unfoldable pub int_field : ℤ → ℕ → Option ℕ → Bool → List ℕ
int_field number width least plus = right_in width (int_text number least plus)

-- the field of Lw
unfoldable pub logical_field : Bool → ℕ → List ℕ
logical_field truth width = replicate (width - 1) 32 ++ (if truth then 84 else 70) ∷ []

-- the field of Aw: blanks before a shorter text, the leftmost characters of a longer one
unfoldable pub text_field : List ℕ → ℕ → List ℕ
text_field text width = replicate (width - length text) 32 ++ take width text
