-- `unfolding statements_opened` opens the readers of statements, for tokens that are read by computation.
use Rattle.c_readers.specs.Readers.{a_sign, a_word, a_name, all_stand}
use Rattle.c_readers.specs.ListReader.{behind_item, separated}
use Rattle.c_readers.specs.ExpressionReader as expression
use Rattle.c_readers.specs.ExpressionReader.{operator_of, between, indexed, chosen, by_operator, onward, cast_of, cast_operand, casted, parenthesised, by_cast, opened, sign_lead, prefixed, word_lead, sized, second, both, extremal, one_value, absolute, number, operand, expression, expression_behind}
use Rattle.c_readers.specs.CallReader.{by_closing, arguments, called, through_a_parameter, starred, by_function, by_opening, call}
use Rattle.c_readers.specs.ValueReader.{a_number}
use Rattle.c_statement_readers.specs.PartReader.{right_by, right, assigned, assignment, call_statement, simple_by, simple, returned_value, returned_by, returned, tested, added, turn_by, turn, for_rest, for_head}
use Rattle.c_statement_readers.specs.CaseReader.{one_case, cases_by_word, cases_by_sign, cases}
use Rattle.c_statement_readers.specs.StatementReader.{closing, first_and_more, by_brace, statements, block, braced, jump, else_by, otherwise, conditional, switched, counted, repeated, led, labelled, by_label, by_word, by_sign, a_statement, statement, body}

unfoldable pub statements_opened : Unit {0}
unfolding a_sign a_word a_name all_stand behind_item separated operator_of between indexed expression.a_field expression.otherwise chosen expression.by_operator onward cast_of cast_operand casted parenthesised by_cast opened sign_lead prefixed expression.by_sign word_lead sized second both extremal one_value absolute expression.by_word number operand expression.expression expression_behind by_closing arguments called through_a_parameter starred by_function by_opening call a_number right_by right assigned assignment call_statement simple_by simple returned_value returned_by returned tested added turn_by turn for_rest for_head one_case cases_by_word cases_by_sign cases closing first_and_more by_brace statements block braced jump else_by otherwise conditional switched counted repeated led labelled by_label by_word by_sign a_statement statement body
statements_opened = tt
