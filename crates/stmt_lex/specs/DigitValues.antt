-- The value of digits, up to one more than the greatest integer.
use Rattle.std.specs.Prelude.{ℕ, ◌+◌, ◌*◌, min, List, [], ◌∷◌, if◌then◌else◌}
use Rattle.std.specs.Char.{digit_value}
use Rattle.fortran_text.specs.declared.characters.Character.{Character}
use Rattle.fortran_lexemes.specs.PiecesOfText.{is_digit}

abbrev pub digits_capped : ℕ → List Character → ℕ
digits_capped value [] = value
digits_capped value (c ∷ rest) = if is_digit c then digits_capped (min (value * 10 + digit_value c.code) 2147483648) rest else value
