-- The form of the simplest programs: one main program without a PROGRAM statement, over names of type INTEGER by their first
-- letter, and PRINT with the format `*`. ANSI X3.9-1978, sections 2.2, 4.1.2, 12.8 and 14.
use Rattle.std.specs.Prelude.{◌≡◌, ℕ, ◌≤◌, Bool, true, false, ◌&&◌, ◌||◌, nat_le, List, [], ◌∷◌, length, None}
use Rattle.std.specs.Char.{is_ascii_digit, is_ascii_lowercase}
use Rattle.std.specs.List.{list_all}
use Rattle.f_tree.specs.declared.statements.Body.{Body}
use Rattle.f_tree.specs.declared.statements.Body as body
use Rattle.f_tree.specs.declared.statements.Control.{Control}
use Rattle.f_tree.specs.declared.statements.ControlWord.{ControlWord}
use Rattle.f_tree.specs.declared.statements.ControlWord.TheVariants as word
use Rattle.f_tree.specs.declared.statements.ControlValue.TheVariants as value
use Rattle.f_tree.specs.declared.statements.Direction.TheVariants as direction
use Rattle.f_tree.specs.declared.statements.ListItem.{ListItem}
use Rattle.f_tree.specs.declared.statements.Stmt.{Stmt}
use Rattle.f_tree.specs.declared.statements.UnitKind.TheVariants as unit_kind
use Rattle.f_tree.specs.declared.units.Unit.{Unit as ProgramUnit}

-- A letter or a digit, in a text without upper case. Section 3.1.
abbrev pub is_letter_or_digit : ℕ → Bool
is_letter_or_digit c = is_ascii_lowercase c || is_ascii_digit c

unfoldable pub begins_with : (ℕ → Bool) → List ℕ → Bool
begins_with test [] = false
begins_with test (c ∷ rest) = test c

-- I to N, the first letters of names of type INTEGER. Section 4.1.2.
unfoldable pub is_integer_letter : ℕ → Bool
is_integer_letter c = nat_le 105 c && nat_le c 110

-- A name: one to six letters and digits, the first a letter. Section 2.2. Names of type INTEGER by their first letter are built.
pub record IsName (text : List ℕ) : Type 0 where
  pub first : begins_with is_integer_letter text ≡ true
  pub all : list_all is_letter_or_digit text ≡ true
  pub short : length text ≤ 6

-- A control word with `*`. Section 12.8.1.
abbrev pub star : ControlWord → Control
star w = record { word = w; value = value.Star }

-- PRINT with the format `*`: the standard unit, list-directed. Section 12.8.
unfoldable pub printed : List ListItem → Body
printed items = body.Transfer direction.Write (star word.Unit ∷ star word.Format ∷ []) items

-- The card of the first of some statements.
unfoldable pub card_of_first : List Stmt → ℕ
card_of_first [] = 1
card_of_first (tree ∷ more) = tree.card

-- A main program without a PROGRAM statement. Section 14.
unfoldable pub main_program : ℕ → List Stmt → ProgramUnit
main_program file trees =
    record { file = file; card = card_of_first trees; kind = unit_kind.Main; name = None; dummies = []; statements = trees }
