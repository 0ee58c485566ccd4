-- Functions that are spelled are read, where their bodies are.
use Rattle.std.proofs.Common.{◌≡◌, refl, ℕ, ◌+◌, Bool, true, List, [], codes, Some, Ok, arith}
use Rattle.c_file_readers.specs.c_tree.declared.types.ResultType.{ResultType}
use Rattle.c_file_readers.specs.c_tree.declared.types.ResultType.TheVariants as result
use Rattle.c_file_readers.specs.c_tree.declared.statement.CStmt.{CStmt}
use Rattle.c_file_readers.specs.c_tree.declared.file.CFunction.{CFunction}
use Rattle.c_file_readers.specs.c_tree.CWords.{is_name, result_word}
use Rattle.c_file_readers.specs.c_tree.CExpressionText.{Scope}
use Rattle.c_file_readers.specs.c_tree.CText as file
use Rattle.c_file_readers.specs.c_tree.CText.{ReadsFunction}
use Rattle.c_file_readers.specs.c_readers.Readers.{Tokens, found, lookup}
use Rattle.c_file_readers.specs.c_readers.TypeReader.{result_words}
use Rattle.c_file_readers.specs.c_readers.DeclarationReader.{is_new}
use Rattle.c_file_readers.specs.grammar.Exactness.{Eventually}
use Rattle.c_statement_laws.specs.c_grammar_laws.ExpressionLaws.{Anything}
use Rattle.c_file_readers.proofs.grammar.GoodExact.{good-exact}
use Rattle.c_statement_laws.proofs.c_grammar_laws.FreshNames.{passes-new}
use Rattle.c_statement_laws.proofs.c_grammar_laws.TokenReads.{sign-read, name-read, row-word-read}
use Rattle.c_statement_laws.proofs.c_grammar_laws.HeadReads.{parameter-list-read, locals-read}
use Rattle.c_file_readers.specs.c_statement_readers.StatementReader.{body}
use Rattle.c_statement_laws.specs.StatementLaws.{InOrder, ScopesInOrder, BodyIs, GoodBodies}
use Rattle.c_file_readers.specs.FileReader as reader
use Rattle.c_file_readers.specs.FileReader.{a_function}
use Rattle.c_file_laws.specs.FileLaws.{FunctionNew, ExactFunctions}
use Rattle.c_file_laws.proofs.BodyStarts.{body-begins}
use Rattle.c_file_laws.proofs.FunctionGood.{params-order, locals-order, good_functions}

-- The statements of functions that are spelled are read.
abbrev pub BodiesRead : Type 0
BodiesRead = (scope : Scope) → InOrder scope → (all : List CStmt) (p q : Tokens) → BodyIs scope all p q → Eventually (λ nests. body scope nests nests p ≡ Some (Ok (all, q)))

pub result-row : (of : ResultType) → lookup (result_word of) result_words ≡ Some of
result-row result.Int = refl
result-row result.Integer = refl
result-row result.Logical = refl
result-row result.Void = refl

module _ (scopes : ScopesInOrder) (whole : BodiesRead) where
  pub function-read : (new : List ℕ → Bool) (scope : Scope) (one : CFunction) (p q : Tokens) → InOrder scope → is_name one.name ≡ true → new one.name ≡ true → ReadsFunction scope one p q
      → Eventually (λ nests. a_function nests scope new p ≡ found one q)
  unfolding a_function reader.function_behind reader.function_body
  function-read new scope _ _ _ good named fresh (file.a_function of name {params = params} {locals = all} {body = inner_body} {outer = outer} {inner = inner} {here = names} {p = p} {q = q} {r = r} {s = s} {t = t} {u = u} {v = v} {w = w} {x = x} met word is opens heads closes begins declares statements) =
      let order : InOrder outer = params-order scopes heads (scopes.function name scope named good) in
      let last : InOrder inner = locals-order scopes declares order in
      let head = parameter-list-read heads u closes in
      let made = locals-read declares (body-begins last.of_names statements) [] in
      let rest = whole inner last inner_body w x (record { reads = statements; met = met }) in
      record {
        first = head.first + (made.first + rest.first);
        holds = λ n h.
            rw (
              row-word-read result_words (result_word of) of p q (result-row of) word,
              name-read new name q r fresh is,
              sign-read (codes "(") r s opens,
              head.holds n (omega (arith, h)),
              sign-read (codes "{") u v begins,
              made.holds n n (omega (arith, h)) (omega (arith, h)),
              rest.holds n (omega (arith, h)),
            ) refl;
      }

pub exact_functions : ScopesInOrder → GoodBodies → BodiesRead → ExactFunctions
exact_functions scopes bodies whole scope here good =
    good-exact (FunctionNew scope here) Anything (λ nests. a_function nests scope (is_new here))
    (λ nests more least. good_functions scopes bodies scope here nests nests more good (omega arith) least)
    (λ one p q spelled ends. function-read scopes whole (is_new here) scope one p q good spelled.fresh.named (passes-new here one.name spelled.fresh) spelled.reads) tt
