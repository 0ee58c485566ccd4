use Rattle.std.proofs.Common.{refl}
use Rattle.fortran_lexemes.specs.fortran_text.CharactersOfText.{counting, behind, after, shown, characters_from, has_counted, characters}
use Rattle.fortran_lexemes.specs.KindsOfStatements.{word_of, keywords, longer, longest_keyword, outside_constants, nesting_behind, outside_parentheses, after_parentheses, begins_with, closed_before, is_empty, past_comma, is_while, is_labelled_while, is_do_while, is_logical_if, or_nothing, after_amount, after_length, begins_function, begins_typed_function, types, behind_equals, kind_with_equals, kind_of_marks, kind_of_characters}
use Rattle.fortran_lexemes.specs.LexicalRows.{is_too_large, has_too_large, is_long_name, has_long_name, is_bad_quote, has_bad_quote, is_other_type, is_point, is_number, is_other_length, is_times, is_sized_type, first_is, begins_other_type, has_other_type, is_other_statement, takes_controls, is_equals, is_named, is_constant, is_quoted, ends_control, is_other_specifier, takes_word, is_status, is_property, is_blank_word, is_word_of, is_other_word, is_other_control, depth_after, has_other_control, is_opening, has_other_controls, begins_other_control, has_other_statement, is_deeper, is_too_deep, first_lexical_row}
use Rattle.fortran_lexemes.specs.PiecesOfText.{begins, named, numbered, run_of, constant_end, undoubled, quoted_to, order_words, equality_words, logical_words, dotted_at, pointed, once_or_twice, sign_of, cut_at}
use Rattle.fortran_lexemes.specs.PiecesOfStatements.{depth_behind, left_behind, within, opened_step, behind_word, type_at, typed_step, statement_step, function_step, begin_step, inner_step, is_then, awaiting_step, type_step, behind_type_step, then_step, behind_if_step, expected_step, to_step, while_step, part_step, behind_constant, behind_part, is_format, format_step, label_step, condition_step, within_step, step, step_past_blank, pieces_from, pieces}
use Rattle.lexeme_rows.specs.RefusedTexts.{rows}
use Rattle.lexeme_rows.proofs.computed_texts.rows_of_texts.Goals as goal

pub returns : goal.returns
unfolding rows counting behind after shown characters_from has_counted characters word_of keywords longer longest_keyword outside_constants nesting_behind outside_parentheses after_parentheses begins_with closed_before is_empty past_comma is_while is_labelled_while is_do_while is_logical_if or_nothing after_amount after_length begins_function begins_typed_function types behind_equals kind_with_equals kind_of_marks kind_of_characters begins named numbered run_of constant_end undoubled quoted_to order_words equality_words logical_words dotted_at pointed once_or_twice sign_of cut_at depth_behind left_behind within opened_step behind_word type_at typed_step statement_step function_step begin_step inner_step is_then awaiting_step type_step behind_type_step then_step behind_if_step expected_step to_step while_step part_step behind_constant behind_part is_format format_step label_step condition_step within_step step step_past_blank pieces_from pieces is_too_large has_too_large is_long_name has_long_name is_bad_quote has_bad_quote is_other_type is_point is_number is_other_length is_times is_sized_type first_is begins_other_type has_other_type is_other_statement takes_controls is_equals is_named is_constant is_quoted ends_control is_other_specifier takes_word is_status is_property is_blank_word is_word_of is_other_word is_other_control depth_after has_other_control is_opening has_other_controls begins_other_control has_other_statement is_deeper is_too_deep first_lexical_row
returns c = refl
