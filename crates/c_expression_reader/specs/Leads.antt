-- What signs and words begin, and the operands that are read, in the words of the definitions (C89, 3.3).
use Rattle.c_readers.specs.ExpressionReader as reader
use Rattle.c_expression_reader.specs.declared.operators.Operator.{Operator}
use Rattle.c_expression_reader.specs.declared.operators.Operator.TheVariants as operator
use Rattle.c_expression_reader.specs.declared.leads.SignLead.{SignLead}
use Rattle.c_expression_reader.specs.declared.leads.SignLead.TheVariants as sign
use Rattle.c_expression_reader.specs.declared.leads.WordLead.{WordLead}
use Rattle.c_expression_reader.specs.declared.leads.WordLead.TheVariants as word
use Rattle.c_expression_reader.specs.declared.leads.Operand.{Operand}

unfoldable pub seen_operator : Operator → reader.Operator
seen_operator (operator.Infix op) = reader.Infix op
seen_operator operator.Subscript = reader.Subscript
seen_operator operator.Member = reader.Member
seen_operator operator.Choice = reader.Choice

unfoldable pub seen_sign_lead : SignLead → reader.SignLead
seen_sign_lead sign.Opening = reader.Opening
seen_sign_lead (sign.Before op) = reader.Before op

unfoldable pub seen_word_lead : WordLead → reader.WordLead
seen_word_lead word.Sized = reader.Sized
seen_word_lead (word.Extremal which) = reader.Extremal which
seen_word_lead word.Absolute = reader.Absolute
seen_word_lead word.Named = reader.Named

abbrev pub seen_operand : Operand → reader.Operand
seen_operand operand = reader.operand_of operand.level operand.tree
