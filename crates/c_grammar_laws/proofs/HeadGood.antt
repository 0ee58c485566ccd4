-- The parameters and the declarations of a function are read as they stand.
use Rattle.std.proofs.Common.{◌≡◌, refl, sym, ap, ◌∙◌, subst, ℕ, zero, suc, ◌+◌, ◌≤◌, le_refl, Bool, true, false, List, [], ◌∷◌, ◌++◌, append_assoc, append-nil, codes, bytes_eq, if◌then◌else◌, Option, Some, None, arith}
use Rattle.c_readers.specs.c_tree.declared.types.ParameterType.{ParameterType}
use Rattle.c_readers.specs.c_tree.declared.types.ParameterType.TheVariants as parameter
use Rattle.c_readers.specs.c_tree.declared.declaration.CParam.{CParam}
use Rattle.c_readers.specs.c_tree.declared.declaration.CLocal.{CLocal}
use Rattle.c_readers.specs.c_tree.Tokens.{Word, Sign}
use Rattle.c_readers.specs.c_tree.CWords.{ASign, Stand, parameter_tokens}
use Rattle.c_readers.specs.c_tree.CExpressionText.{Scope}
use Rattle.c_readers.specs.c_tree.CDeclarationText as text
use Rattle.c_readers.specs.c_tree.CDeclarationText.{ReadsLocals, ReadsParams, with_declared, with_parameter}
use Rattle.c_readers.specs.Readers.{Tokens, Reader, found, lookup, ◌>>=◌}
use Rattle.c_readers.specs.ListReader.{Separator, Closes, Goes, Neither, separator}
use Rattle.c_readers.specs.DeclarationReader.{is_new, Declared, LocalLead, local_words, local_by}
use Rattle.c_readers.specs.HeadReader as reader
use Rattle.c_readers.specs.HeadReader.{Parameters, a_parameter, parameters_by, behind_parameter, parameters, parameter_list, Locals, locals_by, locals}
use Rattle.c_readers.specs.grammar.Exactness.{head, Filled, Judged, Good}
use Rattle.c_grammar_laws.specs.DeclarationLaws.{ReadsParameters, GoodParameters, ReadsDeclarations, GoodHeads}
use Rattle.c_readers.proofs.grammar.Judging.{in_turn, in_turn_of, good-as, good-fewer, judged-as, judged-also, judged-fewer, behind-token, refuses, refuses-end, stays, stays-end, takes-one, good-found, at-the-token, at-the-end}
use Rattle.c_grammar_laws.proofs.TokenGood.{equal-texts, OneSign, good-sign, OneName, good-name}
use Rattle.c_grammar_laws.proofs.ListGood.{IsSeparator, separator-is}
use Rattle.c_grammar_laws.proofs.TypeGood.{ParameterStands, good-parameter-type}
use Rattle.c_grammar_laws.proofs.ValueGood.{RowWord}
use Rattle.c_grammar_laws.proofs.LocalGood.{LocalIs, by-local}
use Rattle.c_grammar_laws.proofs.FreshNames.{fresh_name, fresh-new, new-name}

-- ## Parameters

-- Parameters behind others, up to the closing parenthesis.
pub record ParametersBehind (scope : Scope) (here : List (List ℕ)) (before : List CParam) (made : Parameters) (p q : Tokens) : Type 0 where
  pub first : CParam
  pub later : List CParam
  pub middle : Tokens
  pub whole : made.0 ≡ before ++ (first ∷ later)
  pub reads : ReadsParams scope here (first ∷ later) made.1 made.2 p middle
  pub closes : ASign (codes ")") middle q

-- What stands behind the type and the name of a parameter.
abbrev AfterParameter : Scope → List (List ℕ) → List CParam → ParameterType → List ℕ → Parameters → Tokens → Tokens → Type 0
AfterParameter scope here before of name made q r =
    (middle : Tokens) → OneName (is_new here) name middle q → (front : Tokens) → ParameterStands of front middle → ParametersBehind scope here before made front r

module _ (scope : Scope) (here : List (List ℕ)) (before : List CParam) (of : ParameterType) (name : List ℕ) where
  abbrev more_before : List CParam
  more_before = before ++ (a_parameter of name ∷ [])

  abbrev scope_behind : Scope
  scope_behind = with_parameter of name scope

  abbrev made_here : Parameters
  made_here = (more_before, scope_behind, name ∷ here)

  last-one : (p r : Tokens) → ASign (codes ")") p r → AfterParameter scope here before of name made_here p r
  last-one p r closes = λ middle named front stands. record {
    first = a_parameter of name;
    later = [];
    middle = p;
    whole = refl;
    reads = text.last_parameter scope here of name stands named.is (new-name here name named.passed);
    closes = closes;
  }

  after-able : Filled (AfterParameter scope here before of name) []
  after-able = record { later = Sign (codes ")") ∷ []; tree = made_here; spelled = λ behind. last-one (Sign (codes ")") ∷ behind) behind refl }

  next-one : (made : Parameters) (q r : Tokens) → ParametersBehind scope_behind (name ∷ here) more_before made q r
      → AfterParameter scope here before of name made (Sign (codes ",") ∷ q) r
  next-one made q r more = λ middle named front stands. record {
    first = a_parameter of name;
    later = more.first ∷ more.later;
    middle = more.middle;
    whole = more.whole ∙ append_assoc before (a_parameter of name ∷ []) (more.first ∷ more.later);
    reads = text.one_parameter scope made.1 here made.2 of name stands named.is (new-name here name named.passed) refl more.reads;
    closes = more.closes;
  }

  module _ (nests fewer : ℕ) (again above : Reader Parameters) (least : nests ≤ suc fewer)
      (good : Good fewer (ParametersBehind scope_behind (name ∷ here) more_before) again above) where
    by-separator : (sign : List ℕ) (behind : Tokens) (s : Separator) → separator (codes ")") sign ≡ s → IsSeparator (codes ")") sign s
        → Judged nests (AfterParameter scope here before of name) (behind_parameter above made_here) (Sign sign ∷ behind) (parameters_by again made_here sign behind s)
    unfolding behind_parameter
    by-separator sign behind Closes h is =
        takes-one nests made_here (Sign sign) behind (λ p. last-one (Sign sign ∷ p) p (ap (λ z. Sign z ∷ p) is)) (λ p. ap (λ z. parameters_by above made_here sign p z) h)
    by-separator sign behind Goes h is =
        judged-fewer (AfterParameter scope here before of name) (behind_parameter above made_here) nests (suc fewer) (Sign sign ∷ behind) least (again behind)
        (behind-token (ParametersBehind scope_behind (name ∷ here) more_before) (AfterParameter scope here before of name) above (behind_parameter above made_here) fewer (Sign sign) behind
        (λ made p q more. subst (λ z. AfterParameter scope here before of name made (Sign z ∷ p) q) (sym is) (next-one made p q more))
        (λ p. ap (λ z. parameters_by above made_here sign p z) h) (again behind) (good.judged behind))
    by-separator sign behind Neither h is = refuses nests (Sign sign) behind after-able (λ p. ap (λ z. parameters_by above made_here sign p z) h)

    after-judged : (tokens : Tokens) → Judged nests (AfterParameter scope here before of name) (behind_parameter above made_here) tokens (behind_parameter again made_here tokens)
    unfolding behind_parameter
    after-judged [] = refuses-end nests after-able refl
    after-judged (Sign sign ∷ behind) = by-separator sign behind (separator (codes ")") sign) refl (separator-is (codes ")") sign)
    after-judged (token ∷ behind) = refuses nests token behind after-able (λ p. refl)

    pub good-after : Good nests (AfterParameter scope here before of name) (behind_parameter again made_here) (behind_parameter above made_here)
    good-after = record { able = after-able; judged = after-judged }

parameters-able : (scope : Scope) (here : List (List ℕ)) (before : List CParam) → Filled (ParametersBehind scope here before) []
parameters-able scope here before = record {
  later = Word (codes "int") ∷ Word (fresh_name here) ∷ Sign (codes ")") ∷ [];
  tree = made_here scope here before parameter.Int (fresh_name here);
  spelled = λ behind. last-one scope here before parameter.Int (fresh_name here) (Sign (codes ")") ∷ behind) behind refl (Word (fresh_name here) ∷ Sign (codes ")") ∷ behind)
      (record { passed = fresh-new here; is = refl }) (Word (codes "int") ∷ Word (fresh_name here) ∷ Sign (codes ")") ∷ behind) refl;
}

pub good-parameters : (nests count most : ℕ) (scope : Scope) (here : List (List ℕ)) (before : List CParam) → nests ≤ count → count ≤ most
    → Good nests (ParametersBehind scope here before) (parameters count scope here before) (parameters most scope here before)
unfolding parameters
good-parameters nests zero most scope here before low high = record { able = parameters-able scope here before; judged = λ tokens. omega (arith, low) }
good-parameters nests (suc count) zero scope here before low high = absurd (let h : suc count ≤ 0 = high in omega (arith, h))
good-parameters zero (suc count) (suc most) scope here before low high =
    in_turn {First = ParameterStands} good-parameter-type
    (λ of. in_turn {First = OneName (is_new here)} (good-name (is_new here) (fresh_name here) (fresh-new here))
    (λ name. good-after scope here before of name zero zero (parameters count (with_parameter of name scope) (name ∷ here) (before ++ (a_parameter of name ∷ [])))
    (parameters most (with_parameter of name scope) (name ∷ here) (before ++ (a_parameter of name ∷ []))) (omega arith)
    (good-parameters zero count most (with_parameter of name scope) (name ∷ here) (before ++ (a_parameter of name ∷ [])) (omega arith) (omega (arith, high)))))
good-parameters (suc nests) (suc count) (suc most) scope here before low high =
    in_turn {First = ParameterStands} good-parameter-type
    (λ of. in_turn {First = OneName (is_new here)} (good-name (is_new here) (fresh_name here) (fresh-new here))
    (λ name. good-after scope here before of name (suc nests) nests (parameters count (with_parameter of name scope) (name ∷ here) (before ++ (a_parameter of name ∷ [])))
    (parameters most (with_parameter of name scope) (name ∷ here) (before ++ (a_parameter of name ∷ []))) (le_refl (suc nests))
    (good-parameters nests count most (with_parameter of name scope) (name ∷ here) (before ++ (a_parameter of name ∷ [])) (omega (arith, low)) (omega (arith, high)))))

module _ (scope : Scope) (here : List (List ℕ)) where
  closed-able : Filled (ReadsParameters scope here) []
  closed-able = record {
    later = Word (codes "void") ∷ Sign (codes ")") ∷ [];
    tree = ([], scope, here);
    spelled = λ behind. record { middle = Sign (codes ")") ∷ behind; reads = text.no_parameter scope here refl; closes = refl };
  }

  some-closed : (made : Parameters) (p q : Tokens) → ParametersBehind scope here [] made p q → ReadsParameters scope here made p q
  some-closed made p q b = record {
    middle = b.middle;
    reads = subst (λ z. ReadsParams scope here z made.1 made.2 p b.middle) (sym b.whole) b.reads;
    closes = b.closes;
  }

  abbrev BehindVoid : Parameters → Tokens → Tokens → Type 0
  BehindVoid made p q = ReadsParameters scope here made (Word (codes "void") ∷ p) q

  good-void : {nests : ℕ} → Good nests BehindVoid (λ more. reader.parameters_or_none 0 scope here [] more true) (λ more. reader.parameters_or_none 0 scope here [] more true)
  unfolding reader.parameters_or_none
  good-void = in_turn {First = OneSign (codes ")")} (good-sign (codes ")"))
      (λ u. good-found ([], scope, here) (λ p front closes. record { middle = front; reads = text.no_parameter scope here refl; closes = closes }))

  module _ (nests count most : ℕ) (low : nests ≤ count) (high : count ≤ most) where
    as-some : (tokens : Tokens) → ((p : Tokens) → head p ≡ head tokens → parameter_list most scope here p ≡ parameters most scope here [] p)
        → Judged nests (ReadsParameters scope here) (parameter_list most scope here) tokens (parameters count scope here [] tokens)
    as-some tokens same =
        judged-also (ReadsParameters scope here) nests tokens same (parameters count scope here [] tokens)
        (judged-as nests (parameters most scope here []) tokens some-closed (parameters count scope here [] tokens) ((good-parameters nests count most scope here [] low high).judged tokens))

    by-void : (word : List ℕ) (behind : Tokens) (is : Bool) → bytes_eq word (codes "void") ≡ is
        → Judged nests (ReadsParameters scope here) (parameter_list most scope here) (Word word ∷ behind) (reader.parameters_or_none count scope here word behind is)
    unfolding parameter_list reader.parameters_or_none
    by-void word behind true h =
        judged-fewer (ReadsParameters scope here) (parameter_list most scope here) nests (suc nests) (Word word ∷ behind) (omega arith) (reader.parameters_or_none count scope here word behind true)
        (behind-token BehindVoid (ReadsParameters scope here) (λ more. reader.parameters_or_none 0 scope here [] more true) (parameter_list most scope here) nests (Word word) behind
        (λ made p q spelled. subst (λ z. ReadsParameters scope here made (Word z ∷ p) q) (sym (equal-texts word (codes "void") h)) spelled)
        (λ p. ap (λ z. reader.parameters_or_none most scope here word p z) h) (reader.parameters_or_none 0 scope here [] behind true) (good-void.judged behind))
    by-void word behind false h =
        as-some (Word word ∷ behind)
        (at-the-token (λ p. parameter_list most scope here p ≡ parameters most scope here [] p) (Word word) (λ p. ap (λ z. reader.parameters_or_none most scope here word p z) h))

    list-judged : (tokens : Tokens) → Judged nests (ReadsParameters scope here) (parameter_list most scope here) tokens (parameter_list count scope here tokens)
    unfolding parameter_list
    list-judged [] = as-some [] (at-the-end (λ p. parameter_list most scope here p ≡ parameters most scope here [] p) refl)
    list-judged (Word word ∷ behind) = by-void word behind (bytes_eq word (codes "void")) refl
    list-judged (token ∷ behind) =
        as-some (token ∷ behind) (at-the-token (λ p. parameter_list most scope here p ≡ parameters most scope here [] p) token (λ p. refl))

    pub good-parameter-list : Good nests (ReadsParameters scope here) (parameter_list count scope here) (parameter_list most scope here)
    good-parameter-list = record { able = closed-able; judged = list-judged }

-- ## Declarations

-- Declarations behind others.
pub record LocalsBehind (scope : Scope) (here : List (List ℕ)) (before : List CLocal) (made : Locals) (p q : Tokens) : Type 0 where
  pub later : List CLocal
  pub whole : made.0 ≡ before ++ later
  pub reads : ReadsLocals scope here later made.1 p q

none-behind : (scope : Scope) (here : List (List ℕ)) (before : List CLocal) (p : Tokens) → LocalsBehind scope here before (before, scope) p p
none-behind scope here before p = record { later = []; whole = sym (append-nil before); reads = text.no_local scope here }

one-behind : (scope : Scope) (here : List (List ℕ)) (before : List CLocal) (d : Declared) (made : Locals) (p q r : Tokens) → LocalIs scope (is_new here) d p q
    → LocalsBehind (with_declared d.0 d.1 scope) (d.1 ∷ here) (before ++ (d.0 ∷ [])) made q r → LocalsBehind scope here before made p r
one-behind scope here before d made p q r one more = record {
  later = d.0 ∷ more.later;
  whole = more.whole ∙ append_assoc before (d.0 ∷ []) more.later;
  reads = text.one_local scope made.1 here one.reads (new-name here d.1 one.fresh) more.reads;
}

locals-able : (scope : Scope) (here : List (List ℕ)) (before : List CLocal) → Filled (LocalsBehind scope here before) []
locals-able scope here before = record { later = []; tree = (before, scope); spelled = λ behind. none-behind scope here before behind }

-- Declarations behind the first word of one.
abbrev LedLocals : Scope → List (List ℕ) → List CLocal → LocalLead → Locals → Tokens → Tokens → Type 0
LedLocals scope here before lead made p q = (front : Tokens) → RowWord local_words lead front p → LocalsBehind scope here before made front q

-- what is read behind a declaration
abbrev pub LocalsAgain : ℕ → ℕ → Scope → List (List ℕ) → List CLocal → Declared → Reader Locals
LocalsAgain most count scope here before d = locals most count (with_declared d.0 d.1 scope) (d.1 ∷ here) (before ++ (d.0 ∷ []))

module _ (nests fewer most above count more : ℕ) (scope : Scope) (here : List (List ℕ)) (before : List CLocal) (least : nests ≤ suc fewer) (few : fewer ≤ most) (wide : most ≤ above)
    (good : (d : Declared) → Good fewer (LocalsBehind (with_declared d.0 d.1 scope) (d.1 ∷ here) (before ++ (d.0 ∷ []))) (LocalsAgain most count scope here before d) (LocalsAgain above more scope here before d)) where
  good-led : (lead : LocalLead) → Good fewer (LedLocals scope here before lead)
      (λ p. local_by scope (is_new here) most p lead >>= LocalsAgain most count scope here before) (λ p. local_by scope (is_new here) above p lead >>= LocalsAgain above more scope here before)
  good-led lead =
      in_turn {First = λ d p q. (front : Tokens) → RowWord local_words lead front p → LocalIs scope (is_new here) d front q}
      (by-local scope (is_new here) (fresh_name here) (fresh-new here) fewer most above few wide lead)
      (λ d. good-as (λ made q r behind p one front row. one-behind scope here before d made front q r (one front row) behind) (good d))

  by-lead : (word : List ℕ) (behind : Tokens) (o : Option LocalLead) → lookup word local_words ≡ o
      → Judged nests (LocalsBehind scope here before) (locals above (suc more) scope here before) (Word word ∷ behind)
      (locals_by (LocalsAgain most count scope here before) most scope here before word behind o)
  unfolding locals locals_by
  by-lead word behind None h =
      stays nests (before, scope) (Word word) behind (λ p. none-behind scope here before p) (λ p. ap (locals_by (LocalsAgain above more scope here before) above scope here before word p) h)
  by-lead word behind (Some lead) h =
      judged-fewer (LocalsBehind scope here before) (locals above (suc more) scope here before) nests (suc fewer) (Word word ∷ behind) least (local_by scope (is_new here) most behind lead >>= LocalsAgain most count scope here before)
      (behind-token (LedLocals scope here before lead) (LocalsBehind scope here before) (λ p. local_by scope (is_new here) above p lead >>= LocalsAgain above more scope here before) (locals above (suc more) scope here before) fewer (Word word) behind
      (λ made p q led. led (Word word ∷ p) (record { word = word; row = h; is = refl }))
      (λ p. ap (locals_by (LocalsAgain above more scope here before) above scope here before word p) h)
      (local_by scope (is_new here) most behind lead >>= LocalsAgain most count scope here before) ((good-led lead).judged behind))

  locals-judged : (tokens : Tokens) → Judged nests (LocalsBehind scope here before) (locals above (suc more) scope here before) tokens (locals most (suc count) scope here before tokens)
  unfolding locals
  locals-judged [] = stays-end nests (before, scope) (λ p. none-behind scope here before p) refl
  locals-judged (Word word ∷ behind) = by-lead word behind (lookup word local_words) refl
  locals-judged (token ∷ behind) = stays nests (before, scope) token behind (λ p. none-behind scope here before p) (λ p. refl)

  good-step : Good nests (LocalsBehind scope here before) (locals most (suc count) scope here before) (locals above (suc more) scope here before)
  good-step = record { able = locals-able scope here before; judged = locals-judged }

pub good-locals : (nests most above count more : ℕ) (scope : Scope) (here : List (List ℕ)) (before : List CLocal) → nests ≤ most → most ≤ above → nests ≤ count → count ≤ more
    → Good nests (LocalsBehind scope here before) (locals most count scope here before) (locals above more scope here before)
unfolding locals
good-locals nests most above zero more scope here before few wide low high = record { able = locals-able scope here before; judged = λ tokens. omega (arith, low) }
good-locals nests most above (suc count) zero scope here before few wide low high = absurd (let h : suc count ≤ 0 = high in omega (arith, h))
good-locals zero most above (suc count) (suc more) scope here before few wide low high =
    good-step zero zero most above count more scope here before (omega arith) few wide
    (λ d. good-locals zero most above count more (with_declared d.0 d.1 scope) (d.1 ∷ here) (before ++ (d.0 ∷ [])) few wide (omega arith) (omega (arith, high)))
good-locals (suc nests) most above (suc count) (suc more) scope here before few wide low high =
    good-step (suc nests) nests most above count more scope here before (le_refl (suc nests)) (omega (arith, few)) wide
    (λ d. good-locals nests most above count more (with_declared d.0 d.1 scope) (d.1 ∷ here) (before ++ (d.0 ∷ [])) (omega (arith, few)) wide (omega (arith, low)) (omega (arith, high)))

pub good_parameters : GoodParameters
good_parameters scope here nests count most low high = good-parameter-list scope here nests count most low high

-- declarations behind none
pub good_heads : GoodHeads
good_heads scope here nests most above count more few wide low high =
    good-as (λ made p q b. subst (λ z. ReadsDeclarations scope here (z, made.1) p q) (sym b.whole) b.reads) (good-locals nests most above count more scope here [] few wide low high)
