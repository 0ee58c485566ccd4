-- The readers of values, of types and of declarations are exact.
use Rattle.std.proofs.Common.{◌≡◌, refl, ℕ, List, [], arith}
use Rattle.c_readers.specs.c_tree.CExpressionText.{Scope}
use Rattle.c_readers.specs.c_tree.CDeclarationText.{ReadsValue, ReadsTypes}
use Rattle.c_readers.specs.ValueReader.{value}
use Rattle.c_readers.specs.TypeReader.{argument_types}
use Rattle.c_readers.specs.DeclarationReader.{is_new, a_local}
use Rattle.c_readers.specs.HeadReader.{parameter_list, locals}
use Rattle.c_readers.specs.grammar.Exactness.{Good, Eventually}
use Rattle.c_grammar_laws.specs.ExpressionLaws.{Anything}
use Rattle.c_grammar_laws.specs.DeclarationLaws.{DeclaresNew, ReadsParameters, ReadsDeclarations, EndsDeclarations, GoodDeclarations, ExactValues, ExactTypes, ExactDeclarations, ExactParameters, ExactHeads}
use Rattle.c_readers.proofs.grammar.Judging.{good-as}
use Rattle.c_readers.proofs.grammar.GoodExact.{good-exact}
use Rattle.c_grammar_laws.proofs.ExpressionComplete.{always}
use Rattle.c_grammar_laws.proofs.FreshNames.{fresh_name, fresh-new, new-name, passes-new}
use Rattle.c_grammar_laws.proofs.ValueGood.{good-value}
use Rattle.c_grammar_laws.proofs.TypeGood.{good-argument-types}
use Rattle.c_grammar_laws.proofs.LocalGood.{LocalIs, good-local}
use Rattle.c_grammar_laws.proofs.HeadGood.{good_parameters, good_heads}
use Rattle.c_grammar_laws.proofs.TokenReads.{value-read, argument-types-read}
use Rattle.c_grammar_laws.proofs.LocalReads.{local-read}
use Rattle.c_grammar_laws.proofs.HeadReads.{parameter-list-read, locals-read}

pub exact_values : ExactValues
exact_values = good-exact ReadsValue Anything (λ nests. value) (λ nests more least. good-value) (λ v p q spelled ends. always (λ n. value-read v p q spelled)) tt

pub exact_types : ExactTypes
exact_types =
    good-exact ReadsTypes Anything argument_types (λ nests more least. good-argument-types nests nests more (omega arith) least)
    (λ types p q spelled ends. argument-types-read types p q spelled) tt

pub good_declarations : GoodDeclarations
good_declarations scope here nests count most low high =
    good-as (λ d p q l. record { reads = l.reads; fresh = new-name here d.1 l.fresh })
    (good-local scope (is_new here) (fresh_name here) (fresh-new here) nests count most low high)

pub exact_declarations : ExactDeclarations
exact_declarations scope here =
    good-exact (DeclaresNew scope here) Anything (λ nests. a_local scope (is_new here) nests) (λ nests more least. good_declarations scope here nests nests more (omega arith) least)
    (λ d p q spelled ends. local-read scope (is_new here) d.0 d.1 p q (passes-new here d.1 spelled.fresh) spelled.reads) tt

pub exact_parameters : ExactParameters
exact_parameters scope here =
    good-exact (ReadsParameters scope here) Anything (λ nests. parameter_list nests scope here) (λ nests more least. good_parameters scope here nests nests more (omega arith) least)
    (λ made p q spelled ends. parameter-list-read spelled.reads q spelled.closes) tt

pub exact_heads : ExactHeads
exact_heads scope here =
    good-exact (ReadsDeclarations scope here) EndsDeclarations (λ nests. locals nests nests scope here [])
    (λ nests more least. good_heads scope here nests nests more nests more (omega arith) least (omega arith) least)
    (λ made p q spelled ends. let s = locals-read spelled ends [] in record { first = s.first; holds = λ n h. s.holds n n h h }) refl
