-- The rows of refusals of one card. ANSI X3.9-1978, section 3.1: the characters; 3.2: the cards; 3.3: at most 19 continuation cards; 3.4:
-- labels.
use Rattle.std.specs.Prelude.{ℕ, suc, Bool, true, false, not, ◌&&◌, ◌||◌, ◌==◌, nat_le, List, [], ◌∷◌, Option, Some, None, is_some, if◌then◌else◌}
use Rattle.std.specs.List.{list_all}
use Rattle.f_tree.specs.declared.refusals.Kind.{Kind}
use Rattle.f_tree.specs.declared.refusals.Kind.TheVariants.{CharacterOutsideSet, BadLabelField, TooManyContinuations, ContinuationWithoutStatement, TextPastColumn72}
use Rattle.fortran_text.specs.Cards.{Card}
use Rattle.fortran_text.specs.CharactersOfText.{is_blank, is_end}
use Rattle.fortran_text.specs.KindsOfCards.{is_comment, kind_of, field_of, text_of, label_of}
use Rattle.fortran_text.specs.declared.source.CardKind.{CardKind}
use Rattle.fortran_text.specs.declared.source.CardKind.TheVariants.{Comment, Initial, Continuation}

-- What stands open before a card: nothing, or a statement with a number of continuation cards. END is closed by its card.
unfoldable pub open_behind : CardKind → List ℕ → Option ℕ → Option ℕ
open_behind Comment text before = before
open_behind Initial text before = if is_end text then None else Some 0
open_behind Continuation text None = None
open_behind Continuation text (Some n) = Some (suc n)

unfoldable pub open_after : Option ℕ → List Card → Option ℕ
open_after before [] = before
open_after before (card ∷ more) = open_after (open_behind (kind_of card.columns) (text_of card.columns) before) more

-- F01: a character outside the set on a card that is no comment. The set has bytes 32 to 126; a tab is a blank by now.
abbrev pub is_in_set : ℕ → Bool
is_in_set c = nat_le 32 c && nat_le c 126

unfoldable pub has_character_outside : List ℕ → Bool
has_character_outside columns = not (is_comment columns) && not (list_all is_in_set columns)

-- F02: columns 1 to 5 of an initial card are neither blank nor a label, or those of a continuation card are not blank.
unfoldable pub is_bad_field : CardKind → List ℕ → Bool
is_bad_field Comment field = false
is_bad_field Initial field = not (list_all is_blank field || is_some (label_of field))
is_bad_field Continuation field = not (list_all is_blank field)

unfoldable pub has_bad_field : List ℕ → Bool
has_bad_field columns = is_bad_field (kind_of columns) (field_of columns)

-- F03: the twentieth continuation card of a statement.
unfoldable pub is_twentieth : CardKind → Option ℕ → Bool
is_twentieth Comment before = false
is_twentieth Initial before = false
is_twentieth Continuation None = false
is_twentieth Continuation (Some n) = n == 19

-- F04: a continuation card before which no statement stands open.
unfoldable pub is_unopened : CardKind → Option ℕ → Bool
is_unopened Comment before = false
is_unopened Initial before = false
is_unopened Continuation None = true
is_unopened Continuation (Some n) = false

-- F05: something other than blanks past column 72 of a card that is no comment, where that is refused.
unfoldable pub has_text_past : Bool → Card → Bool
has_text_past refused card = refused && (not (is_comment card.columns) && not (list_all is_blank card.past))

-- Whether a row holds at a card. `refused` says that text past column 72 is refused, `before` what stands open before the card.
unfoldable pub holds : Bool → Option ℕ → Card → Kind → Bool
holds refused before card CharacterOutsideSet = has_character_outside card.columns
holds refused before card BadLabelField = has_bad_field card.columns
holds refused before card TooManyContinuations = is_twentieth (kind_of card.columns) before
holds refused before card ContinuationWithoutStatement = is_unopened (kind_of card.columns) before
holds refused before card TextPastColumn72 = has_text_past refused card
holds refused before card _ = false
