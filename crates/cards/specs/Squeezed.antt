-- A text without any blanks and in lower case.
use Rattle.std.specs.Prelude.{ℕ, not, List, map, filter}
use Rattle.std.specs.Char.{to_ascii_lowercase}
use Rattle.fortran_text.specs.CharactersOfText.{is_blank}

abbrev pub squeezed : List ℕ → List ℕ
squeezed text = map to_ascii_lowercase (filter (λ c. not (is_blank c)) text)
