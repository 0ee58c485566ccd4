use Rattle.std.proofs.Common.{refl}
use Rattle.fortran_lexemes.specs.fortran_text.CharactersOfText.{counting, behind, after, shown, characters_from, has_counted, characters}
use Rattle.fortran_lexemes.specs.KindsOfStatements.{word_of, keywords, longer, longest_keyword, outside_constants, nesting_behind, outside_parentheses, after_parentheses, begins_with, closed_before, is_empty, past_comma, is_while, is_labelled_while, is_do_while, is_logical_if, or_nothing, after_amount, after_length, begins_function, begins_typed_function, types, behind_equals, kind_with_equals, kind_of_marks, kind_of_characters}
use Rattle.fortran_lexemes.specs.PiecesOfText.{begins, named, numbered, run_of, constant_end, undoubled, quoted_to, order_words, equality_words, logical_words, dotted_at, pointed, once_or_twice, sign_of, cut_at}
use Rattle.fortran_lexemes.specs.PiecesOfStatements.{depth_behind, left_behind, within, opened_step, behind_word, type_at, typed_step, statement_step, function_step, begin_step, inner_step, is_then, awaiting_step, type_step, behind_type_step, then_step, behind_if_step, expected_step, to_step, while_step, part_step, behind_constant, behind_part, is_format, format_step, label_step, condition_step, within_step, step, step_past_blank, pieces_from, pieces}
use Rattle.lexeme_rows.specs.PieceRows.{rows, rows_of_words, rows_of_formats, rows_of_pieces}
use Rattle.lexeme_rows.proofs.computed_texts.pieces_of_texts.Goals as goal

pub returns : goal.returns
unfolding rows rows_of_words rows_of_formats rows_of_pieces counting behind after shown characters_from has_counted characters word_of keywords longer longest_keyword outside_constants nesting_behind outside_parentheses after_parentheses begins_with closed_before is_empty past_comma is_while is_labelled_while is_do_while is_logical_if or_nothing after_amount after_length begins_function begins_typed_function types behind_equals kind_with_equals kind_of_marks kind_of_characters begins named numbered run_of constant_end undoubled quoted_to order_words equality_words logical_words dotted_at pointed once_or_twice sign_of cut_at depth_behind left_behind within opened_step behind_word type_at typed_step statement_step function_step begin_step inner_step is_then awaiting_step type_step behind_type_step then_step behind_if_step expected_step to_step while_step part_step behind_constant behind_part is_format format_step label_step condition_step within_step step step_past_blank pieces_from pieces
returns c = refl
