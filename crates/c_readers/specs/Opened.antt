-- `unfolding readers_opened` opens the readers, for tokens that are read by computation.
use Rattle.c_readers.specs.Readers.{a_sign, a_word, a_name, all_stand}
use Rattle.c_readers.specs.ListReader.{behind_item, separated}
use Rattle.c_readers.specs.ExpressionReader.{operator_of, between, indexed, a_field, otherwise, chosen, by_operator, onward, cast_of, cast_operand, casted, parenthesised, by_cast, opened, sign_lead, prefixed, by_sign, word_lead, sized, second, both, extremal, one_value, absolute, by_word, number, operand, expression, expression_behind}
use Rattle.c_readers.specs.CallReader.{by_closing, arguments, called, through_a_parameter, starred, by_function, by_opening, call}
use Rattle.c_readers.specs.ValueReader.{a_number, a_quoted, a_word_of, a_sign_of, negated, least, by_value_sign, value, behind_bounded, bounded}
use Rattle.c_readers.specs.TypeReader.{parameter_type, argument_type, by_void, argument_types}
use Rattle.c_readers.specs.DeclarationReader.{bracketed, image, numbers_by, numbers, text_image, text_by, text, static_value, static_numbers, static_number_by, static_number, static_text, own_length, static_chars_behind, static_chars, static_list, static_by, static, extern, plain_numbers, plain_number_by, plain_number, an_array, local_by, a_local}
use Rattle.c_readers.specs.DeclarationReader as declaration
use Rattle.c_readers.specs.HeadReader.{behind_parameter, parameters, parameters_or_none, parameter_list, locals_by, locals}

unfoldable pub readers_opened : Unit {0}
unfolding a_sign a_word a_name all_stand behind_item separated operator_of between indexed a_field otherwise chosen by_operator onward cast_of cast_operand casted parenthesised by_cast opened sign_lead prefixed by_sign word_lead sized second both extremal one_value absolute by_word number operand expression expression_behind by_closing arguments called through_a_parameter starred by_function by_opening call
readers_opened = tt

unfoldable pub declarations_opened : Unit {0}
unfolding a_sign a_word a_name all_stand behind_item separated a_number a_quoted a_word_of a_sign_of negated least by_value_sign value behind_bounded bounded parameter_type argument_type by_void argument_types bracketed image numbers_by numbers text_image text_by text static_value static_numbers static_number_by static_number static_text own_length static_chars_behind static_chars declaration.a_field static_list static_by static extern plain_numbers plain_number_by plain_number an_array local_by a_local behind_parameter parameters parameters_or_none parameter_list locals_by locals
declarations_opened = tt
