-- What is left of a text behind a place in it: the characters outside constants.
use Rattle.std.specs.Prelude.{ℕ, Bool, false, List, [], ◌∷◌, Option, Some, None, if◌then◌else◌}
use Rattle.std.specs.Char.{to_ascii_lowercase}
use Rattle.fortran_text.specs.CharactersOfText.{characters_from, is_blank, is_apostrophe}
use Rattle.fortran_text.specs.declared.characters.Standing.{Standing}
use Rattle.fortran_text.specs.declared.characters.Standing.TheVariants.{Outside, Inside, Closed, Parted, Counted}
use Rattle.fortran_lexemes.specs.KindsOfStatements.{outside_constants}
use Rattle.stmt_lex.specs.declared.cursor.Source.{Source}
use Rattle.stmt_lex.specs.declared.cursor.Source.TheVariants.{Written, Squeezed}

-- What is left of bytes, at a standing.
unfoldable pub outside_from : Bool → Standing → List ℕ → List ℕ
outside_from counts standing text = outside_constants (characters_from counts standing text)

unfoldable pub left_in : Source → List ℕ
left_in (Written counts standing text) = outside_from counts standing text.now
left_in (Squeezed text) = outside_constants text.now

-- The character that a byte shows outside constants, the first where it shows two.
unfoldable pub shown_code : Standing → ℕ → Option ℕ
shown_code (Outside digits) c = if is_blank c then None else Some (to_ascii_lowercase c)
shown_code Inside c = if is_apostrophe c then Some (to_ascii_lowercase c) else None
shown_code Closed c = if is_blank c then None else Some (to_ascii_lowercase c)
shown_code Parted c = if is_blank c then None else if is_apostrophe c then Some 32 else Some (to_ascii_lowercase c)
shown_code (Counted n) c = None

-- Whether a byte shows two.
unfoldable pub shows_two : Standing → ℕ → Bool
shows_two Parted c = is_apostrophe c
shows_two (Outside digits) c = false
shows_two Inside c = false
shows_two Closed c = false
shows_two (Counted n) c = false

-- A character with what is left behind it; nothing at the end.
abbrev pub with_source : Option (ℕ × Source) → List ℕ
with_source None = []
with_source (Some next) = next.0 ∷ left_in next.1
