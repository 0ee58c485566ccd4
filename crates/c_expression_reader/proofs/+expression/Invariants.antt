-- Each call takes fewer nests, or as many and is nearer to a reading of an expression.
use Rattle.std.proofs.Common.{◌+◌, ◌*◌}
use Rattle.c_expression_reader.proofs.+expression.Given as goal

abbrev pub decreases-expressions::read_expression : goal.decreases-expressions::read_expression
decreases-expressions::read_expression l = 6 * l.nests + 0

abbrev pub decreases-expressions::expression_behind : goal.decreases-expressions::expression_behind
decreases-expressions::expression_behind l = 6 * l.nests + 0

abbrev pub decreases-expressions::otherwise : goal.decreases-expressions::otherwise
decreases-expressions::otherwise l = 6 * l.nests + 1

abbrev pub decreases-expressions::between : goal.decreases-expressions::between
decreases-expressions::between l = 6 * l.nests + 1

abbrev pub decreases-expressions::indexed : goal.decreases-expressions::indexed
decreases-expressions::indexed l = 6 * l.nests + 1

abbrev pub decreases-expressions::a_field : goal.decreases-expressions::a_field
decreases-expressions::a_field l = 6 * l.nests + 1

abbrev pub decreases-expressions::chosen : goal.decreases-expressions::chosen
decreases-expressions::chosen l = 6 * l.nests + 2

abbrev pub decreases-expressions::by_operator : goal.decreases-expressions::by_operator
decreases-expressions::by_operator l = 6 * l.nests + 3

abbrev pub decreases-expressions::onward : goal.decreases-expressions::onward
decreases-expressions::onward l = 6 * l.nests + 4

abbrev pub decreases-operands::cast_operand : goal.decreases-operands::cast_operand
decreases-operands::cast_operand l = 6 * l.nests + 1

abbrev pub decreases-operands::casted : goal.decreases-operands::casted
decreases-operands::casted l = 6 * l.nests + 2

abbrev pub decreases-operands::parenthesised : goal.decreases-operands::parenthesised
decreases-operands::parenthesised l = 6 * l.nests + 2

abbrev pub decreases-operands::opened : goal.decreases-operands::opened
decreases-operands::opened l = 6 * l.nests + 3

abbrev pub decreases-operands::prefixed : goal.decreases-operands::prefixed
decreases-operands::prefixed l = 6 * l.nests + 2

abbrev pub decreases-operands::by_sign : goal.decreases-operands::by_sign
decreases-operands::by_sign l = 6 * l.nests + 4

abbrev pub decreases-operands::second : goal.decreases-operands::second
decreases-operands::second l = 6 * l.nests + 1

abbrev pub decreases-operands::both : goal.decreases-operands::both
decreases-operands::both l = 6 * l.nests + 2

abbrev pub decreases-operands::extremal : goal.decreases-operands::extremal
decreases-operands::extremal l = 6 * l.nests + 3

abbrev pub decreases-operands::one_value : goal.decreases-operands::one_value
decreases-operands::one_value l = 6 * l.nests + 1

abbrev pub decreases-operands::absolute : goal.decreases-operands::absolute
decreases-operands::absolute l = 6 * l.nests + 2

abbrev pub decreases-operands::by_word : goal.decreases-operands::by_word
decreases-operands::by_word l = 6 * l.nests + 4

abbrev pub decreases-operands::operand : goal.decreases-operands::operand
decreases-operands::operand l = 6 * l.nests + 5
