use Rattle.std.proofs.Common.{refl}
use Rattle.fortran_lexemes.specs.fortran_text.CharactersOfText.{counting, behind, after, shown, characters_from, has_counted, characters}
use Rattle.fortran_lexemes.specs.KindsOfStatements.{word_of, keywords, longer, longest_keyword, outside_constants, nesting_behind, outside_parentheses, after_parentheses, begins_with, closed_before, is_empty, past_comma, is_while, is_labelled_while, is_do_while, is_logical_if, or_nothing, after_amount, after_length, begins_function, begins_typed_function, types, behind_equals, kind_with_equals, kind_of_marks, kind_of_characters, kind_of_statement}
use Rattle.lexeme_rows.specs.KindRows.{rows}
use Rattle.lexeme_rows.proofs.computed_texts.kinds_of_hard_texts.Goals as goal

pub returns : goal.returns
unfolding rows counting behind after shown characters_from has_counted characters word_of keywords longer longest_keyword outside_constants nesting_behind outside_parentheses after_parentheses begins_with closed_before is_empty past_comma is_while is_labelled_while is_do_while is_logical_if or_nothing after_amount after_length begins_function begins_typed_function types behind_equals kind_with_equals kind_of_marks kind_of_characters kind_of_statement
returns c = refl
