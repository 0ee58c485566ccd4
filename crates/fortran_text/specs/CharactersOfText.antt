-- The characters of the text of a statement. ANSI X3.9-1978, section 3.1. Lower case equals upper case: outside character constants a text
-- is taken in lower case, which is also the case of the names in trees. Section 3.3: blanks outside constants mean nothing.
use Rattle.std.specs.Prelude.{ℕ, zero, suc, ◌+◌, ◌*◌, Bool, true, false, ◌&&◌, ◌||◌, ◌==◌, nat_eq, List, [], ◌∷◌, ◌++◌, map, codes, Option, Some, None, if◌then◌else◌}
use Rattle.std.specs.Char.{is_ascii_digit, is_ascii_lowercase, digit_value, to_ascii_lowercase}
use Rattle.std.specs.List.{starts_with}
use Rattle.fortran_text.specs.declared.characters.Character.{Character}
use Rattle.fortran_text.specs.declared.characters.Standing.{Standing}
use Rattle.fortran_text.specs.declared.characters.Standing.TheVariants.{Outside, Inside, Closed, Parted, Counted}
use Rattle.std.specs.Str.{bytes_eq}

-- A blank.
abbrev pub is_blank : ℕ → Bool
is_blank c = c == 32

-- An apostrophe, which opens and closes a character constant.
abbrev pub is_apostrophe : ℕ → Bool
is_apostrophe c = c == 39

-- A letter or a digit, in a text without upper case.
abbrev pub is_letter_or_digit : ℕ → Bool
is_letter_or_digit c = is_ascii_lowercase c || is_ascii_digit c

-- At the beginning of the n characters after nH.
unfoldable pub counting : ℕ → Standing
counting zero = Outside None
counting (suc n) = Counted n

-- Behind a character outside constants that is neither blank nor an apostrophe. `counts` says that nH takes the next n characters.
unfoldable pub behind : Bool → Option ℕ → ℕ → Standing
behind counts None c = if is_ascii_digit c then Outside (Some (digit_value c)) else Outside None
behind counts (Some n) c =
    if is_ascii_digit c then Outside (Some (n * 10 + digit_value c))
    else if counts && to_ascii_lowercase c == 104 then counting n
    else Outside None

-- Behind a character.
unfoldable pub after : Bool → Standing → ℕ → Standing
after counts (Outside digits) c =
    if is_blank c then Outside digits else if is_apostrophe c then Inside else behind counts digits c
after counts Inside c = if is_apostrophe c then Closed else Inside
after counts Closed c = if is_blank c then Parted else if is_apostrophe c then Inside else behind counts None c
after counts Parted c = if is_blank c then Parted else if is_apostrophe c then Inside else behind counts None c
after counts (Counted zero) c = Outside None
after counts (Counted (suc n)) c = Counted n

-- A character outside constants, in lower case.
abbrev pub mark : ℕ → Character
mark c = record { code = to_ascii_lowercase c; quoted = false }

-- What a text has of a character. Blanks outside constants are left out; one stays between two constants, which would be one without it.
unfoldable pub shown : Standing → ℕ → List Character
shown (Outside digits) c = if is_blank c then [] else mark c ∷ []
shown Inside c = (if is_apostrophe c then mark c else record { code = c; quoted = true }) ∷ []
shown Closed c = if is_blank c then [] else mark c ∷ []
shown Parted c = if is_blank c then [] else if is_apostrophe c then mark 32 ∷ mark c ∷ [] else mark c ∷ []
shown (Counted n) c = record { code = c; quoted = true } ∷ []

unfoldable pub characters_from : Bool → Standing → List ℕ → List Character
characters_from counts standing [] = []
characters_from counts standing (c ∷ rest) = shown standing c ++ characters_from counts (after counts standing c) rest

-- Only a labelled statement that begins with `FORMAT(` has nH.
unfoldable pub has_counted : Bool → List ℕ → Bool
has_counted labelled text =
    labelled && starts_with nat_eq (map (λ (c : Character). c.code) (characters_from false (Outside None) text)) (codes "format(")

-- The characters of a text, without blanks outside constants, and there in lower case.
unfoldable pub characters : Bool → List ℕ → List Character
characters labelled text = characters_from (has_counted labelled text) (Outside None) text

unfoldable pub text_without_blanks : Bool → List ℕ → List ℕ
text_without_blanks labelled text = map (λ (c : Character). c.code) (characters labelled text)

-- END: a text that without its blanks is the word.
unfoldable pub is_end : List ℕ → Bool
is_end text = bytes_eq (text_without_blanks false text) (codes "end")
