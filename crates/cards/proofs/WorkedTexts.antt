-- Texts computed: lines, cards, statements and characters as the definitions give them.
use Rattle.std.proofs.Common.{◌≡◌, ℕ, true, false, List, [], ◌∷◌, ◌++◌, length, map, refl, codes, Some, None}
use Rattle.fortran_text.specs.Cards.{tab_width, spread, columns_of, past_of, card_of, cards_of}
use Rattle.fortran_text.specs.CharactersOfText.{counting, behind, after, shown, characters_from, has_counted, characters, text_without_blanks, is_end}
use Rattle.fortran_text.specs.KindsOfCards.{is_comment, has_ampersand, begins_statement, kind_by, kind_of, field_of, text_of, label_of_digits, label_of}
use Rattle.fortran_text.specs.Lines.{before_lines, lines, is_line_end, without_end}
use Rattle.fortran_text.specs.StatementsOfFile.{before_text, continued, statement, before_statements, statements}
use Rattle.fortran_text.specs.declared.source.Statement.{Statement}

-- Blanks outside constants and the case of letters mean nothing; one blank stays between two constants.
blanks_left_out : text_without_blanks false (codes " W rite (6, ' A  b' ) 'x' 'Y'") ≡ codes "write(6,' A  b')'x' 'Y'"
unfolding behind after shown characters_from has_counted characters text_without_blanks
blanks_left_out = refl

-- nH takes the next n characters in a labelled FORMAT, and nowhere else.
counted_in_format : text_without_blanks true (codes "FOR MAT (3H A b, I 2)") ≡ codes "format(3h A b,i2)"
unfolding counting behind after shown characters_from has_counted characters text_without_blanks
counted_in_format = refl

not_counted_without_label : text_without_blanks false (codes "FORMAT(3H A b)") ≡ codes "format(3hab)"
unfolding counting behind after shown characters_from has_counted characters text_without_blanks
not_counted_without_label = refl

-- A carriage return is no part of a line only before a line feed.
ends_of_lines : map without_end (lines (65 ∷ 13 ∷ 10 ∷ 66 ∷ 13 ∷ [])) ≡ (65 ∷ []) ∷ (66 ∷ 13 ∷ []) ∷ []
unfolding before_lines lines is_line_end without_end
ends_of_lines = refl

-- Leading zeros and blanks do not tell labels apart; zeros alone are no label.
labels : map label_of (codes "0 010" ∷ codes "10   " ∷ codes "00000" ∷ codes "  1X " ∷ codes "     " ∷ []) ≡ Some 10 ∷ Some 10 ∷ None ∷ None ∷ None ∷ []
unfolding label_of_digits label_of
labels = refl

-- A comment between the cards of a statement, a text behind & from column 2, and END, which no card goes on with.
source : List ℕ
source = codes "    7 A=B" ++ 10 ∷ codes "C" ++ 10 ∷ codes "&+C" ++ 10 ∷ codes "      E N D" ++ 10 ∷ codes "     1X" ++ 10 ∷ []

read_source : List Statement
read_source = statements 0 1 (cards_of source)

worked_labels : map (λ (s : Statement). s.label) read_source ≡ Some 7 ∷ None ∷ []
unfolding read_source source tab_width spread columns_of past_of card_of cards_of before_lines lines is_line_end without_end is_comment has_ampersand begins_statement kind_by kind_of field_of text_of label_of_digits label_of before_text continued statement before_statements statements behind after shown characters_from has_counted characters text_without_blanks is_end
worked_labels = refl

worked_cards : map (λ (s : Statement). s.card) read_source ≡ 1 ∷ 4 ∷ []
unfolding read_source source tab_width spread columns_of past_of card_of cards_of before_lines lines is_line_end without_end is_comment has_ampersand begins_statement kind_by kind_of field_of text_of label_of_digits label_of before_text continued statement before_statements statements behind after shown characters_from has_counted characters text_without_blanks is_end
worked_cards = refl

worked_lengths : map (λ (s : Statement). length s.text) read_source ≡ 137 ∷ 66 ∷ []
unfolding read_source source tab_width spread columns_of past_of card_of cards_of before_lines lines is_line_end without_end is_comment has_ampersand begins_statement kind_by kind_of field_of text_of label_of_digits label_of before_text continued statement before_statements statements behind after shown characters_from has_counted characters text_without_blanks is_end
worked_lengths = refl

worked_characters : map (λ (s : Statement). text_without_blanks false s.text) read_source ≡ codes "a=b+c" ∷ codes "end" ∷ []
unfolding read_source source tab_width spread columns_of past_of card_of cards_of before_lines lines is_line_end without_end is_comment has_ampersand begins_statement kind_by kind_of field_of text_of label_of_digits label_of before_text continued statement before_statements statements behind after shown characters_from has_counted characters text_without_blanks is_end
worked_characters = refl
