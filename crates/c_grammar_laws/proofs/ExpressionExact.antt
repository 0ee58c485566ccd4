-- The readers of expressions, of arguments and of calls are exact.
use Rattle.std.proofs.Common.{arith}
use Rattle.c_readers.specs.c_tree.CExpressionText.{ReadsExpr, ReadsArguments, ReadsCall}
use Rattle.c_readers.specs.ExpressionReader.{expression}
use Rattle.c_readers.specs.CallReader.{arguments, call}
use Rattle.c_grammar_laws.specs.ExpressionLaws.{EndsAt, Anything, ExactExpressions, ExactArguments, ExactCalls}
use Rattle.c_readers.proofs.grammar.GoodExact.{good-exact}
use Rattle.c_grammar_laws.proofs.ExpressionGood.{good-expression}
use Rattle.c_grammar_laws.proofs.ExpressionComplete.{reads-whole}
use Rattle.c_grammar_laws.proofs.CallGood.{good-arguments, good-call}
use Rattle.c_grammar_laws.proofs.CallComplete.{reads-arguments, reads-call}

-- The readers of expressions are exact.
pub exact_expressions : ExactExpressions
exact_expressions scope place of top =
    good-exact (ReadsExpr scope place) (EndsAt place) (λ nests. expression scope nests place) (λ nests more least. good-expression scope nests more place least top)
    (λ e p q spelled ends. reads-whole scope place e p q of spelled top ends) (omega arith)

pub exact_arguments : ExactArguments
exact_arguments scope of =
    good-exact (ReadsArguments scope) Anything (λ nests. arguments scope nests nests)
    (λ nests more least. good-arguments scope nests more nests more least (omega arith) least)
    (λ given p q spelled ends. reads-arguments scope of given p q spelled) tt

pub exact_calls : ExactCalls
exact_calls scope of able =
    good-exact (ReadsCall scope) Anything (λ nests. call scope nests nests)
    (λ nests more least. good-call scope nests more nests more least (omega arith) least able)
    (λ one p q spelled ends. reads-call scope of one p q spelled) tt
