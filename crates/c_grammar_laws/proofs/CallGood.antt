-- What the readers of arguments and of calls take is spelled, and where they refuse what stands before can be completed.
use Rattle.std.proofs.Common.{◌≡◌, refl, sym, ap, subst, ℕ, suc, ◌≤◌, Bool, true, false, ◌&&◌, ◌||◌, List, [], ◌∷◌, codes, bytes_eq, arith}
use Rattle.c_readers.specs.c_tree.declared.expression.CExpr.{CExpr}
use Rattle.c_readers.specs.c_tree.declared.expression.CCall.{CCall}
use Rattle.c_readers.specs.c_tree.Tokens.{Word, Sign}
use Rattle.c_readers.specs.c_tree.CWords.{is_among, ASign}
use Rattle.c_readers.specs.c_tree.CExpressionText as text
use Rattle.c_readers.specs.c_tree.CExpressionText.{Scope, ReadsExpr, ReadsArguments, ReadsCall}
use Rattle.c_readers.specs.Readers.{Tokens}
use Rattle.c_readers.specs.ListReader.{separated}
use Rattle.c_readers.specs.ExpressionReader.{expression}
use Rattle.c_readers.specs.CallReader as reader
use Rattle.c_readers.specs.CallReader.{has_some}
use Rattle.c_readers.specs.grammar.Exactness.{head, Filled, Judged, Good}
use Rattle.c_grammar_laws.specs.ExpressionLaws.{GoodArguments, GoodCalls}
use Rattle.c_readers.proofs.grammar.Judging.{in_turn, good-as, judged-as, judged-also, judged-fewer, refuses, refuses-end, takes-one, good-found, behind-token, at-the-token, at-the-end}
use Rattle.c_grammar_laws.proofs.TokenGood.{equal-texts, equal-self, OneSign, good-sign, OneName, good-name}
use Rattle.c_grammar_laws.proofs.ListGood.{ItemsBehind, good-separated}
use Rattle.c_grammar_laws.proofs.ExpressionGood.{good-expression}

and-left : (a b : Bool) → (a && b) ≡ true → a ≡ true
and-left true b h = refl
and-left false b h = h

and-right : (a b : Bool) → (a && b) ≡ true → b ≡ true
and-right true b h = h
and-right false b h = absurd (let e : false ≡ true = h in cc)

module _ (scope : Scope) where
  -- some arguments are arguments
  some : (arguments : List CExpr) (p q : Tokens) → ItemsBehind (ReadsExpr scope 0) (codes ")") [] arguments p q → ReadsArguments scope arguments p q
  some arguments p q items = subst (λ z. ReadsArguments scope z p q) (sym items.whole) (text.some_arguments items.spelled)

  arguments-able : Filled (ReadsArguments scope) []
  arguments-able = record { later = Sign (codes ")") ∷ []; tree = []; spelled = λ behind. text.no_argument refl }

  module _ (nests more count most : ℕ) (least : nests ≤ more) (low : nests ≤ count) (high : count ≤ most) where
    good-some : Good nests (ItemsBehind (ReadsExpr scope 0) (codes ")") []) (separated (expression scope nests 0) (codes ")") count []) (separated (expression scope more 0) (codes ")") most [])
    good-some =
        good-separated (ReadsExpr scope 0) (codes ")") nests count most [] (expression scope nests 0) (expression scope more 0) low high
        (good-expression scope nests more 0 least (omega arith))

    -- where the arguments are not closed at once
    as-some : (tokens : Tokens) → ((p : Tokens) → head p ≡ head tokens → reader.arguments scope more most p ≡ separated (expression scope more 0) (codes ")") most [] p)
        → Judged nests (ReadsArguments scope) (reader.arguments scope more most) tokens (separated (expression scope nests 0) (codes ")") count [] tokens)
    as-some tokens same =
        judged-also (ReadsArguments scope) nests tokens same (separated (expression scope nests 0) (codes ")") count [] tokens)
        (judged-as nests (separated (expression scope more 0) (codes ")") most []) tokens some (separated (expression scope nests 0) (codes ")") count [] tokens)
        (good-some.judged tokens))

    by-closing : (word : List ℕ) (behind : Tokens) (closes : Bool) → bytes_eq word (codes ")") ≡ closes
        → Judged nests (ReadsArguments scope) (reader.arguments scope more most) (Sign word ∷ behind) (reader.by_closing scope nests count word behind closes)
    unfolding reader.arguments reader.by_closing
    by-closing word behind true h =
        takes-one nests [] (Sign word) behind (λ p. text.no_argument (ap (λ z. Sign z ∷ p) (equal-texts word (codes ")") h)))
        (λ p. ap (λ z. reader.by_closing scope more most word p z) h)
    by-closing word behind false h =
        as-some (Sign word ∷ behind)
        (at-the-token (λ p. reader.arguments scope more most p ≡ separated (expression scope more 0) (codes ")") most [] p) (Sign word)
        (λ p. ap (λ z. reader.by_closing scope more most word p z) h))

    arguments-judged : (tokens : Tokens) → Judged nests (ReadsArguments scope) (reader.arguments scope more most) tokens (reader.arguments scope nests count tokens)
    unfolding reader.arguments
    arguments-judged [] = as-some [] (at-the-end (λ p. reader.arguments scope more most p ≡ separated (expression scope more 0) (codes ")") most [] p) refl)
    arguments-judged (Sign word ∷ behind) = by-closing word behind (bytes_eq word (codes ")")) refl
    arguments-judged (token ∷ behind) =
        as-some (token ∷ behind)
        (at-the-token (λ p. reader.arguments scope more most p ≡ separated (expression scope more 0) (codes ")") most [] p) token (λ p. refl))

    pub good-arguments : Good nests (ReadsArguments scope) (reader.arguments scope nests count) (reader.arguments scope more most)
    good-arguments = record { able = arguments-able; judged = arguments-judged }

    -- what stands behind a name that is called: the opening parenthesis and the arguments
    pub record CalledWith (through : Bool) (name : List ℕ) (call : CCall) (p q : Tokens) : Type 0 where
      pub given : List CExpr
      pub middle : Tokens
      pub is : call ≡ record { through = through; name = name; arguments = given }
      pub opens : ASign (codes "(") p middle
      pub spelled : ReadsArguments scope given middle q

    pub good-called : (through : Bool) (name : List ℕ)
        → Good nests (CalledWith through name) (reader.called scope nests count through name) (reader.called scope more most through name)
    unfolding reader.called
    good-called through name =
        in_turn {First = OneSign (codes "(")} (good-sign (codes "("))
        (λ u. in_turn {First = ReadsArguments scope} good-arguments
        (λ given. good-found (record { through = through; name = name; arguments = given }) (λ p middle spelled front opens. record {
          given = given;
          middle = middle;
          is = refl;
          opens = opens;
          spelled = spelled;
        })))

    by-name : (name : List ℕ) → is_among name scope.functions ≡ true → (call : CCall) (p q : Tokens) → CalledWith false name call p q → ReadsCall scope call (Word name ∷ p) q
    by-name name known call p q c = subst (λ z. ReadsCall scope z (Word name ∷ p) q) (sym c.is) (text.by_name name known refl c.opens c.spelled)

    -- behind the parenthesis and the star of a call through a parameter, where some parameter points to a function
    good-through : (some_name : List ℕ) → is_among some_name scope.pointers ≡ true
        → Good nests (λ call p q. ReadsCall scope call (Sign (codes "(") ∷ Sign (codes "*") ∷ p) q) (reader.through_a_parameter scope nests count)
        (reader.through_a_parameter scope more most)
    unfolding reader.through_a_parameter
    good-through some_name known =
        in_turn {First = OneName (λ name. is_among name scope.pointers)} (good-name (λ name. is_among name scope.pointers) some_name known)
        (λ name. in_turn {First = OneSign (codes ")")} (good-sign (codes ")"))
        (λ u. good-as
        (λ call p q c front closes first named.
        subst (λ z. ReadsCall scope z (Sign (codes "(") ∷ Sign (codes "*") ∷ first) q) (sym c.is)
        (text.through_a_parameter name named.passed refl refl named.is closes c.opens c.spelled))
        (good-called true name)))

-- ## A whole call

some-parameter : (names : List (List ℕ)) → has_some names ≡ true → (P : Type 0) → ((name : List ℕ) → is_among name names ≡ true → P) → P
some-parameter [] h P from = absurd (let e : false ≡ true = h in cc)
some-parameter (name ∷ more) h P from = from name (ap (λ z. z || is_among name more) (equal-self name))

module _ (scope : Scope) (nests more count most : ℕ) (least : nests ≤ more) (low : nests ≤ count) (high : count ≤ most) (able : Filled (ReadsCall scope) []) where
  good-starred : (some_name : List ℕ) → is_among some_name scope.pointers ≡ true
      → Good nests (λ call p q. ReadsCall scope call (Sign (codes "(") ∷ p) q) (reader.starred scope nests count) (reader.starred scope more most)
  unfolding reader.starred
  good-starred some_name known =
      in_turn {First = OneSign (codes "*")} (good-sign (codes "*"))
      (λ u. good-as (λ call p q c front star. subst (λ z. ReadsCall scope call (Sign (codes "(") ∷ z) q) (sym star) c)
      (good-through scope nests more count most least low high some_name known))

  by-function : (name : List ℕ) (behind : Tokens) (is : Bool) → is_among name scope.functions ≡ is
      → Judged nests (ReadsCall scope) (reader.call scope more most) (Word name ∷ behind) (reader.by_function scope nests count name behind is)
  unfolding reader.call reader.by_function
  by-function name behind true h =
      judged-fewer (ReadsCall scope) (reader.call scope more most) nests (suc nests) (Word name ∷ behind) (omega arith) (reader.called scope nests count false name behind)
      (behind-token (CalledWith scope nests more count most least low high false name) (ReadsCall scope) (reader.called scope more most false name) (reader.call scope more most) nests (Word name)
      behind (λ call p q c. by-name scope nests more count most least low high name h call p q c) (λ p. ap (λ z. reader.by_function scope more most name p z) h)
      (reader.called scope nests count false name behind) ((good-called scope nests more count most least low high false name).judged behind))
  by-function name behind false h = refuses nests (Word name) behind able (λ p. ap (λ z. reader.by_function scope more most name p z) h)

  by-opening : (word : List ℕ) (behind : Tokens) (is : Bool) → (bytes_eq word (codes "(") && has_some scope.pointers) ≡ is
      → Judged nests (ReadsCall scope) (reader.call scope more most) (Sign word ∷ behind) (reader.by_opening scope nests count word behind is)
  unfolding reader.call reader.by_opening
  by-opening word behind true h =
      some-parameter scope.pointers (and-right (bytes_eq word (codes "(")) (has_some scope.pointers) h)
      (Judged nests (ReadsCall scope) (reader.call scope more most) (Sign word ∷ behind) (reader.starred scope nests count behind))
      (λ some_name known.
      judged-fewer (ReadsCall scope) (reader.call scope more most) nests (suc nests) (Sign word ∷ behind) (omega arith) (reader.starred scope nests count behind)
      (behind-token (λ call p q. ReadsCall scope call (Sign (codes "(") ∷ p) q) (ReadsCall scope) (reader.starred scope more most) (reader.call scope more most) nests (Sign word) behind
      (λ call p q c. subst (λ z. ReadsCall scope call (Sign z ∷ p) q) (sym (equal-texts word (codes "(") (and-left (bytes_eq word (codes "(")) (has_some scope.pointers) h))) c)
      (λ p. ap (λ z. reader.by_opening scope more most word p z) h) (reader.starred scope nests count behind) ((good-starred some_name known).judged behind)))
  by-opening word behind false h = refuses nests (Sign word) behind able (λ p. ap (λ z. reader.by_opening scope more most word p z) h)

  call-judged : (tokens : Tokens) → Judged nests (ReadsCall scope) (reader.call scope more most) tokens (reader.call scope nests count tokens)
  unfolding reader.call
  call-judged [] = refuses-end nests able refl
  call-judged (Word name ∷ behind) = by-function name behind (is_among name scope.functions) refl
  call-judged (Sign word ∷ behind) = by-opening word behind (bytes_eq word (codes "(") && has_some scope.pointers) refl
  call-judged (token ∷ behind) = refuses nests token behind able (λ p. refl)

  pub good-call : Good nests (ReadsCall scope) (reader.call scope nests count) (reader.call scope more most)
  good-call = record { able = able; judged = call-judged }

-- The readers of arguments and of calls judge all tokens.
pub all_good_arguments : GoodArguments
all_good_arguments scope nests more count most least low high = good-arguments scope nests more count most least low high

pub all_good_calls : GoodCalls
all_good_calls scope nests more count most least low high able = good-call scope nests more count most least low high able
