use Rattle.c_grammar_laws.proofs.ExpressionGood.{good_expressions}
use Rattle.c_grammar_laws.proofs.CallGood.{all_good_arguments, all_good_calls}
use Rattle.c_grammar_laws.proofs.expressions.good_c_readers.Goals as goal

pub returns : goal.returns
returns c = record { expressions = good_expressions; arguments = all_good_arguments; calls = all_good_calls }
