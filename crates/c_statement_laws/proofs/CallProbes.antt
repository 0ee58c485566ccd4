-- Where a call begins, both the reader of calls and that of expressions take what stands before the parenthesis that opens the arguments.
use Rattle.std.proofs.Common.{◌≡◌, refl, sym, ap, ◌∙◌, subst, ℕ, zero, suc, Bool, true, false, ◌&&◌, ◌||◌, List, [], ◌∷◌, codes, bytes_eq, if◌then◌else◌, Option, Some, None, Err}
use Rattle.std.proofs.lemmas.Bool.{and_from, or_left, or_right}
use Rattle.c_grammar_laws.specs.c_tree.declared.expression.CExpr.{CExpr}
use Rattle.c_grammar_laws.specs.c_tree.declared.expression.CExpr.TheVariants as expr
use Rattle.c_grammar_laws.specs.c_tree.declared.expression.CCall.{CCall}
use Rattle.c_grammar_laws.specs.c_tree.Tokens.{Word, Sign}
use Rattle.c_grammar_laws.specs.c_tree.CWords.{is_among}
use Rattle.c_grammar_laws.specs.c_tree.CExpressionText as text
use Rattle.c_grammar_laws.specs.c_tree.CExpressionText.{Scope, ReadsCall}
use Rattle.c_grammar_laws.specs.c_readers.Readers.{Tokens, Reader, lookup, ◌>>=◌}
use Rattle.c_grammar_laws.specs.c_readers.Opened.{readers_opened}
use Rattle.c_grammar_laws.specs.c_readers.ExpressionReader as reader
use Rattle.c_grammar_laws.specs.c_readers.ExpressionReader.{WordLead, Sized, Extremal, Absolute, Named, leading_words, or_name, is_known, word_lead, expression, expression_behind}
use Rattle.c_grammar_laws.specs.c_readers.CallReader as calls
use Rattle.c_grammar_laws.specs.c_readers.CallReader.{has_some, call}
use Rattle.c_grammar_laws.specs.grammar.Exactness.{Filled}
use Rattle.c_grammar_laws.proofs.TokenGood.{equal-texts}
use Rattle.c_grammar_laws.proofs.ExpressionSteps.{name-free, among-names, name-lead}
use Rattle.c_statement_readers.specs.PartReader.{starts_with, points_and_opens, starred_and_opens, begins_call}
use Rattle.c_statement_laws.specs.StatementLaws.{InOrder}
use Rattle.c_statement_laws.proofs.LabelLaws.{both-true}
use Rattle.c_statement_laws.proofs.Divergence.{Ends, ends-then, Probe}

-- ## What stands where a call begins

pub record StartsWith (sign : List ℕ) (tokens : Tokens) : Type 0 where
  pub behind : Tokens
  pub is : tokens ≡ Sign sign ∷ behind

pub starts : (sign : List ℕ) (tokens : Tokens) → starts_with sign tokens ≡ true → StartsWith sign tokens
starts sign [] h = absurd (let e : false ≡ true = h in cc)
starts sign (Sign other ∷ more) h = record { behind = more; is = ap (λ z. Sign z ∷ more) (equal-texts other sign h) }
starts sign (token ∷ more) h = absurd (let e : false ≡ true = h in cc)

-- the ways in which a call begins
pub data CallStart (scope : Scope) (tokens : Tokens) : Type 0 where
  by_name : (name : List ℕ) (behind : Tokens) → is_among name scope.functions ≡ true → tokens ≡ Word name ∷ Sign (codes "(") ∷ behind → CallStart scope tokens
  through : (name : List ℕ) (behind : Tokens) → is_among name scope.pointers ≡ true
      → tokens ≡ Sign (codes "(") ∷ Sign (codes "*") ∷ Word name ∷ Sign (codes ")") ∷ Sign (codes "(") ∷ behind → CallStart scope tokens

pub record Points (scope : Scope) (tokens : Tokens) : Type 0 where
  pub name : List ℕ
  pub behind : Tokens
  pub known : is_among name scope.pointers ≡ true
  pub is : tokens ≡ Word name ∷ Sign (codes ")") ∷ Sign (codes "(") ∷ behind

module _ (scope : Scope) where
  points : (tokens : Tokens) → points_and_opens scope tokens ≡ true → Points scope tokens
  points [] h = absurd (let e : false ≡ true = h in cc)
  points (Word name ∷ Sign sign ∷ more) h =
      let k = both-true (is_among name scope.pointers) (bytes_eq sign (codes ")") && starts_with (codes "(") more) h in
      let l = both-true (bytes_eq sign (codes ")")) (starts_with (codes "(") more) k.1 in
      let s = starts (codes "(") more l.1 in
      record {
        name = name;
        behind = s.behind;
        known = k.0;
        is = ap (λ z. Word name ∷ Sign z ∷ more) (equal-texts sign (codes ")") l.0) ∙ ap (λ z. Word name ∷ Sign (codes ")") ∷ z) s.is;
      }
  points (token ∷ more) h = absurd (let e : false ≡ true = h in cc)

  starred : (tokens : Tokens) → starred_and_opens scope tokens ≡ true → CallStart scope (Sign (codes "(") ∷ tokens)
  starred [] h = absurd (let e : false ≡ true = h in cc)
  starred (Sign sign ∷ more) h =
      let k = both-true (bytes_eq sign (codes "*")) (points_and_opens scope more) h in
      let p = points more k.1 in
      through p.name p.behind p.known
      (ap (λ z. Sign (codes "(") ∷ Sign z ∷ more) (equal-texts sign (codes "*") k.0) ∙ ap (λ z. Sign (codes "(") ∷ Sign (codes "*") ∷ z) p.is)
  starred (token ∷ more) h = absurd (let e : false ≡ true = h in cc)

  pub call-start : (tokens : Tokens) → begins_call scope tokens ≡ true → CallStart scope tokens
  call-start [] h = absurd (let e : false ≡ true = h in cc)
  call-start (Word name ∷ more) h =
      let k = both-true (is_among name scope.functions) (starts_with (codes "(") more) h in
      let s = starts (codes "(") more k.1 in
      by_name name s.behind k.0 (ap (λ z. Word name ∷ z) s.is)
  call-start (Sign sign ∷ more) h =
      let k = both-true (bytes_eq sign (codes "(")) (starred_and_opens scope more) h in
      subst (λ z. CallStart scope (Sign z ∷ more)) (sym (equal-texts sign (codes "(") k.0)) (starred more k.1)
  call-start (token ∷ more) h = absurd (let e : false ≡ true = h in cc)

  pub name-begins : (name : List ℕ) (p : Tokens) → is_among name scope.functions ≡ true → begins_call scope (Word name ∷ Sign (codes "(") ∷ p) ≡ true
  name-begins name p known = and_from (is_among name scope.functions) true known refl

  pub through-begins : (name : List ℕ) (p : Tokens) → is_among name scope.pointers ≡ true
      → begins_call scope (Sign (codes "(") ∷ Sign (codes "*") ∷ Word name ∷ Sign (codes ")") ∷ Sign (codes "(") ∷ p) ≡ true
  through-begins name p known = and_from (is_among name scope.pointers) true known refl

  -- there is something to call
  pub callable : (tokens : Tokens) → CallStart scope tokens → Filled (ReadsCall scope) []
  callable tokens (by_name name behind known is) = record {
    later = Word name ∷ Sign (codes "(") ∷ Sign (codes ")") ∷ [];
    tree = record { through = false; name = name; arguments = [] };
    spelled = λ p. text.by_name name known refl refl (text.no_argument refl);
  }
  callable tokens (through name behind known is) = record {
    later = Sign (codes "(") ∷ Sign (codes "*") ∷ Word name ∷ Sign (codes ")") ∷ Sign (codes "(") ∷ Sign (codes ")") ∷ [];
    tree = record { through = true; name = name; arguments = [] };
    spelled = λ p. text.through_a_parameter name known refl refl refl refl refl (text.no_argument refl);
  }

-- ## The readers before the arguments

has-some : (name : List ℕ) (names : List (List ℕ)) → is_among name names ≡ true → has_some names ≡ true
has-some name [] h = h
has-some name (one ∷ names) h = refl

module _ (scope : Scope) (count : ℕ) where
  call-of-name : (name : List ℕ) → is_among name scope.functions ≡ true → call scope count count (Word name ∷ []) ≡ Some (Err [])
  unfolding readers_opened
  call-of-name name known = ap (calls.by_function scope count count name []) known

  call-through : (name : List ℕ) → is_among name scope.pointers ≡ true
      → call scope count count (Sign (codes "(") ∷ Sign (codes "*") ∷ Word name ∷ Sign (codes ")") ∷ []) ≡ Some (Err [])
  unfolding readers_opened
  call-through name known = rw (has-some name scope.pointers known) (rw (known) refl)

  lead-there : (name : List ℕ) (o : Option WordLead) → is_known scope name ≡ true → or_name scope name o ≡ None → ⊥
  lead-there name (Some lead) h e = absurd (let k : Some lead ≡ None = e in cc)
  lead-there name None h e =
      absurd (let k : Some Named ≡ None = sym (ap (λ (z : Bool). if z then Some Named else None) h) ∙ e in cc)

  behind-end : (n place level : ℕ) (e : CExpr) → Ends (expression_behind scope n place level e [])
  unfolding readers_opened
  behind-end zero place level e = tt
  behind-end (suc n) place level e = refl

  by-lead : (place n : ℕ) (name : List ℕ) (o : Option WordLead) → (o ≡ None → ⊥)
      → Ends (reader.by_word (expression scope n) name [] o >>= (λ first. expression_behind scope n place first.level first.tree))
  unfolding readers_opened
  by-lead place n name (Some Sized) h = refl
  by-lead place n name (Some (Extremal which)) h = refl
  by-lead place n name (Some Absolute) h = refl
  by-lead place n name (Some Named) h = behind-end n place 9 (expr.Name name)
  by-lead place n name None h = absurd (h refl)

  lead-some : (name : List ℕ) → is_known scope name ≡ true → word_lead scope name ≡ None → ⊥
  unfolding word_lead
  lead-some name known h = lead-there name (lookup name leading_words) known h

  pub expression-of-name : (place n : ℕ) (name : List ℕ) → is_known scope name ≡ true → Ends (expression scope n place (Word name ∷ []))
  unfolding reader.expression reader.operand
  expression-of-name place zero name known = tt
  expression-of-name place (suc n) name known = by-lead place n name (word_lead scope name) (lead-some name known)

  pub by-lead-some : (place n : ℕ) (name : List ℕ) (lead : WordLead) → word_lead scope name ≡ Some lead → Ends (expression scope n place (Word name ∷ []))
  unfolding reader.expression reader.operand
  by-lead-some place zero name lead h = tt
  by-lead-some place (suc n) name lead h =
      by-lead place n name (word_lead scope name) (λ none. let e : Some lead ≡ None = sym h ∙ none in absurd (cc))

  -- a pointer in parentheses behind a star
  abbrev starred_name : List ℕ → Tokens
  starred_name name = Sign (codes "(") ∷ Sign (codes "*") ∷ Word name ∷ Sign (codes ")") ∷ []

  expression-starred : (place n : ℕ) (name : List ℕ) → word_lead scope name ≡ Some Named → Ends (expression scope n place (starred_name name))
  unfolding readers_opened
  expression-starred place zero name lead = tt
  expression-starred place (suc zero) name lead = tt
  expression-starred place (suc (suc zero)) name lead = tt
  expression-starred place (suc (suc (suc zero))) name lead = rw (lead) tt
  expression-starred place (suc (suc (suc (suc n)))) name lead = rw (lead) refl

pub known-pointer : (scope : Scope) (name : List ℕ) → InOrder scope → is_among name scope.pointers ≡ true → word_lead scope name ≡ Some Named
known-pointer scope name good known =
    name-lead scope name (name-free name (among-names name scope.pointers good.of_names.pointers known))
    (text.declared_before (text.an_object (good.pointers name known)))

pub known-function : (scope : Scope) (name : List ℕ) → is_among name scope.functions ≡ true → is_known scope name ≡ true
known-function scope name known =
    or_right (is_among name scope.objects) (is_among name scope.functions || is_among name (codes "TRUE_" ∷ codes "FALSE_" ∷ []))
    (or_left (is_among name scope.functions) (is_among name (codes "TRUE_" ∷ codes "FALSE_" ∷ [])) known)

-- what stands where a call begins, for two readers that go on behind a call and behind an expression
module _ {A : Type 0} (scope : Scope) (count place : ℕ) (after_call : CCall → Reader A) (after : CExpr → Reader A) (above : Bool → Reader A)
    (at_end : (e : CExpr) → Ends (after e [])) (is_call : (p : Tokens) → above true p ≡ (call scope count count p >>= after_call))
    (is_expression : (p : Tokens) → above false p ≡ (expression scope count place p >>= after)) where
  both-end : (front : Tokens) → call scope count count front ≡ Some (Err []) → Ends (expression scope count place front) → (way : Bool) → Ends (above way front)
  both-end front one other true = subst Ends (sym (is_call front ∙ ap (λ z. z >>= after_call) one)) refl
  both-end front one other false = subst Ends (sym (is_expression front)) (ends-then after (expression scope count place front) other at_end)

  by-start : InOrder scope → (tokens : Tokens) → CallStart scope tokens → Probe (begins_call scope) above tokens
  by-start good tokens (by_name name behind known is) = record {
    front = Word name ∷ [];
    token = Sign (codes "(");
    behind = behind;
    whole = is;
    again = λ p. name-begins scope name p known;
    ends = both-end (Word name ∷ []) (call-of-name scope count name known) (expression-of-name scope count place count name (known-function scope name known));
  }
  by-start good tokens (through name behind known is) = record {
    front = starred_name scope count name;
    token = Sign (codes "(");
    behind = behind;
    whole = is;
    again = λ p. through-begins scope name p known;
    ends = both-end (starred_name scope count name) (call-through scope count name known)
        (expression-starred scope count place count name (known-pointer scope name good known));
  }

  pub call-probe : InOrder scope → (tokens : Tokens) → begins_call scope tokens ≡ true → Probe (begins_call scope) above tokens
  call-probe good tokens h = by-start good tokens (call-start scope tokens h)
