-- With which tokens expressions, calls and statements begin.
use Rattle.std.proofs.Common.{◌≡◌, refl, sym, ap, ◌∙◌, subst, ℕ, suc, ◌≤◌, Bool, true, false, not, ◌&&◌, ◌||◌, List, [], ◌∷◌, codes, bytes_eq, Option, Some, None, Ok, Err, arith}
use Rattle.std.specs.List.{list_all}
use Rattle.std.proofs.lemmas.Bool.{and_right, or_parts}
use Rattle.c_grammar_laws.specs.c_tree.declared.expression.CExpr.{CExpr}
use Rattle.c_grammar_laws.specs.c_tree.declared.expression.CExpr.TheVariants as expr
use Rattle.c_grammar_laws.specs.c_tree.declared.expression.CCall.{CCall}
use Rattle.c_grammar_laws.specs.c_tree.declared.expression.UnaryOp.TheVariants as prefix
use Rattle.c_grammar_laws.specs.c_tree.declared.expression.Extreme.TheVariants as extreme
use Rattle.c_grammar_laws.specs.c_tree.declared.statement.CNext.{CNext}
use Rattle.c_grammar_laws.specs.c_tree.declared.statement.CStmt.{CStmt}
use Rattle.c_grammar_laws.specs.c_tree.Tokens.{Word, Sign, Digits, Quoted, Including, Bad, begins_with, is_letter, is_word_byte}
use Rattle.c_grammar_laws.specs.c_tree.CWords.{words, is_among, is_name}
use Rattle.c_grammar_laws.specs.c_tree.CLabels.{LabelsOf}
use Rattle.c_grammar_laws.specs.c_tree.CExpressionText as text
use Rattle.c_grammar_laws.specs.c_tree.CExpressionText.{Scope, IsKnown, ReadsExpr, ReadsCall}
use Rattle.c_grammar_laws.specs.c_tree.CStatementText as form
use Rattle.c_grammar_laws.specs.c_tree.CStatementText.{ReadsTested, ReadsFor, ReadsStmt, ReadsStmts}
use Rattle.c_grammar_laws.specs.c_readers.Readers.{Tokens, Outcome, found, ◌>>=◌}
use Rattle.c_grammar_laws.specs.c_readers.Opened.{readers_opened}
use Rattle.c_grammar_laws.specs.c_readers.ExpressionReader as reader
use Rattle.c_grammar_laws.specs.c_readers.ExpressionReader.{WordLead, Sized, Extremal, Absolute, Named, word_lead, expression, expression_behind}
use Rattle.c_grammar_laws.specs.grammar.Exactness.{Eventually}
use Rattle.c_grammar_laws.specs.ExpressionLaws.{OfNames, EndsAt}
use Rattle.c_grammar_laws.proofs.TokenGood.{equal-texts}
use Rattle.c_grammar_laws.proofs.ExpressionSteps.{among-names, name-free, name-lead}
use Rattle.c_grammar_laws.proofs.ExpressionComplete.{reads-whole}
use Rattle.c_statement_readers.specs.LabelTests.{may_stand}
use Rattle.c_statement_readers.specs.PartReader.{starts_with, begins_call}
use Rattle.c_statement_readers.specs.StatementReader.{is_no_lead, is_label}
use Rattle.c_statement_laws.specs.StatementLaws.{InOrder, begins_else}
use Rattle.c_statement_laws.proofs.LabelLaws.{both-true}
use Rattle.c_statement_laws.proofs.CallProbes.{CallStart, by_name, through, call-start, starts, name-begins, through-begins, known-pointer}

-- ## Words that begin statements are no names

abbrev pub starters : List (List ℕ)
starters = codes "goto" ∷ codes "return" ∷ codes "if" ∷ codes "switch" ∷ codes "for" ∷ codes "do" ∷ codes "else" ∷ []

abbrev pub marks : List (List ℕ)
marks = codes ";" ∷ codes "{" ∷ codes "}" ∷ []

among-fewer : (word : List ℕ) (some many : List (List ℕ)) → list_all (λ one. is_among one many) some ≡ true → is_among word many ≡ false → is_among word some ≡ false
among-fewer word [] many h k = refl
among-fewer word (one ∷ some) many h k =
    let parts = both-true (is_among one many) (list_all (λ one. is_among one many) some) h in
    by (bytes_eq word one) refl parts.0 (among-fewer word some many parts.1 k)
  where
    by : (same : Bool) → bytes_eq word one ≡ same → is_among one many ≡ true → is_among word some ≡ false → (same || is_among word some) ≡ false
    by true s first later = absurd (let e : true ≡ false = sym first ∙ (ap (λ z. is_among z many) (sym (equal-texts word one s)) ∙ k) in cc)
    by false s first later = later

not-false : (a : Bool) → not a ≡ true → a ≡ false
not-false true h = sym h
not-false false h = refl

pub name-starts : (name : List ℕ) → is_name name ≡ true → is_among name starters ≡ false
name-starts name h =
    let first = both-true (begins_with is_letter name) (list_all is_word_byte name && not (is_among name words)) h in
    let second = both-true (list_all is_word_byte name) (not (is_among name words)) first.1 in
    among-fewer name starters words refl (not-false (is_among name words) second.1)

pub known-starts : {scope : Scope} {name : List ℕ} → OfNames scope → IsKnown scope name → is_among name starters ≡ false
known-starts {scope = scope} {name = name} of (text.declared_before (text.an_object h)) = name-starts name (among-names name scope.objects of.objects h)
known-starts {scope = scope} {name = name} of (text.declared_before (text.a_function h)) = name-starts name (among-names name scope.functions of.functions h)
known-starts {name = name} of (text.a_truth h) = by (bytes_eq name (codes "TRUE_")) (bytes_eq name (codes "FALSE_")) refl refl h
  where
    by : (one other : Bool) → bytes_eq name (codes "TRUE_") ≡ one → bytes_eq name (codes "FALSE_") ≡ other → (one || (other || false)) ≡ true → is_among name starters ≡ false
    by true other s t h = subst (λ z. is_among z starters ≡ false) (sym (equal-texts name (codes "TRUE_") s)) refl
    by false true s t h = subst (λ z. is_among z starters ≡ false) (sym (equal-texts name (codes "FALSE_") t)) refl
    by false false s t h = absurd (let e : false ≡ true = h in cc)

-- ## What begins neither with such a word nor with a sign that begins or ends a statement

abbrev pub leads_out : Tokens → Bool
leads_out (Word word ∷ more) = not (is_among word starters)
leads_out (Sign sign ∷ more) = not (is_among sign marks)
leads_out other = true

pub expression-leads : {scope : Scope} {place : ℕ} {e : CExpr} {p q : Tokens} → OfNames scope → ReadsExpr scope place e p q → leads_out p ≡ true
expression-leads of (text.a_number place n h a) = ap leads_out a
expression-leads of (text.a_string place bytes a) = ap leads_out a
expression-leads of (text.a_name place name h a) = ap leads_out a ∙ ap not (known-starts of h)
expression-leads of (text.parenthesised place a e b) = ap leads_out a
expression-leads of (text.prefixed place prefix.Minus h a e) = ap leads_out a
expression-leads of (text.prefixed place prefix.Not h a e) = ap leads_out a
expression-leads of (text.prefixed place prefix.Deref h a e) = ap leads_out a
expression-leads of (text.prefixed place prefix.Address h a e) = ap leads_out a
expression-leads of (text.casted place to h a t b e) = ap leads_out a
expression-leads of (text.between place o h e a f) = expression-leads of e
expression-leads of (text.chosen place h e a f b g) = expression-leads of e
expression-leads of (text.indexed place h e a i b) = expression-leads of e
expression-leads of (text.a_field place name h n e a b) = expression-leads of e
expression-leads of (text.size place a b c d) = ap leads_out a
expression-leads of (text.extreme_of place extreme.Max a b e c f d) = ap leads_out a
expression-leads of (text.extreme_of place extreme.Min a b e c f d) = ap leads_out a
expression-leads of (text.magnitude place a b e c) = ap leads_out a

pub call-leads : {scope : Scope} {one : CCall} {p q : Tokens} → OfNames scope → ReadsCall scope one p q → leads_out p ≡ true
call-leads {scope = scope} of (text.by_name name known a b c) = ap leads_out a ∙ ap not (name-starts name (among-names name scope.functions of.functions known))
call-leads of (text.through_a_parameter name known a b c d e f) = ap leads_out a

-- ## What a statement begins with ends none

abbrev pub no_end : Tokens → Bool
no_end (Word word ∷ more) = not (bytes_eq word (codes "else"))
no_end (Sign sign ∷ more) = not (bytes_eq sign (codes "}"))
no_end other = true

last-other : (word : List ℕ) → is_among word starters ≡ false → bytes_eq word (codes "else") ≡ false
last-other word h =
    let a = or_parts (bytes_eq word (codes "goto")) (is_among word (codes "return" ∷ codes "if" ∷ codes "switch" ∷ codes "for" ∷ codes "do" ∷ codes "else" ∷ [])) h in
    let b = or_parts (bytes_eq word (codes "return")) (is_among word (codes "if" ∷ codes "switch" ∷ codes "for" ∷ codes "do" ∷ codes "else" ∷ [])) a.1 in
    let c = or_parts (bytes_eq word (codes "if")) (is_among word (codes "switch" ∷ codes "for" ∷ codes "do" ∷ codes "else" ∷ [])) b.1 in
    let d = or_parts (bytes_eq word (codes "switch")) (is_among word (codes "for" ∷ codes "do" ∷ codes "else" ∷ [])) c.1 in
    let e = or_parts (bytes_eq word (codes "for")) (is_among word (codes "do" ∷ codes "else" ∷ [])) d.1 in
    let f = or_parts (bytes_eq word (codes "do")) (is_among word (codes "else" ∷ [])) e.1 in
    (or_parts (bytes_eq word (codes "else")) false f.1).0

last-mark : (sign : List ℕ) → is_among sign marks ≡ false → bytes_eq sign (codes "}") ≡ false
last-mark sign h =
    let a = or_parts (bytes_eq sign (codes ";")) (is_among sign (codes "{" ∷ codes "}" ∷ [])) h in
    let b = or_parts (bytes_eq sign (codes "{")) (is_among sign (codes "}" ∷ [])) a.1 in
    (or_parts (bytes_eq sign (codes "}")) false b.1).0

pub leads-on : (p : Tokens) → leads_out p ≡ true → no_end p ≡ true
leads-on [] h = refl
leads-on (Word word ∷ more) h = ap not (last-other word (not-false (is_among word starters) h))
leads-on (Sign sign ∷ more) h = ap not (last-mark sign (not-false (is_among sign marks) h))
leads-on (Digits n ∷ more) h = refl
leads-on (Quoted bytes ∷ more) h = refl
leads-on (Including ∷ more) h = refl
leads-on (Bad ∷ more) h = refl

tested-goes : {scope : Scope} {word : List ℕ} {e : CExpr} {p q : Tokens} → ReadsTested scope word e p q → bytes_eq word (codes "else") ≡ false → no_end p ≡ true
tested-goes (form.tested word a b c d) h = ap no_end a ∙ ap not h

for-goes : {scope : Scope} {target first test : CExpr} {turn : CNext} {p q : Tokens} → ReadsFor scope target first test turn p q → no_end p ≡ true
for-goes (form.for_head a b c d e f g h i j) = ap no_end a

pub statement-goes : {scope : Scope} {one : CStmt} {p q : Tokens} → OfNames scope → ReadsStmt scope one p q → no_end p ≡ true
statement-goes of (form.assigned {p = p} a b c d) = leads-on p (expression-leads of a)
statement-goes of (form.assigned_call {p = p} a b c d) = leads-on p (expression-leads of a)
statement-goes of (form.called {p = p} a b) = leads-on p (call-leads of a)
statement-goes of (form.empty a) = ap no_end a
statement-goes of (form.a_block a b) = ap no_end a
statement-goes of (form.labelled label n a b c) = ap no_end a ∙ ap not (last-other label (name-starts label n))
statement-goes of (form.jump label a b c) = ap no_end a
statement-goes of (form.returned a b) = ap no_end a
statement-goes of (form.returned_value a b c) = ap no_end a
statement-goes of (form.returned_call a b c) = ap no_end a
statement-goes of (form.if_only a b c) = tested-goes a refl
statement-goes of (form.if_else a b c d e f) = tested-goes a refl
statement-goes of (form.switched o a b c) = tested-goes a refl
statement-goes of (form.repeated_for a b c) = for-goes a
statement-goes of (form.repeated_do a b c d e) = ap no_end a

pub no-else : (p : Tokens) → no_end p ≡ true → begins_else p ≡ false
no-else [] h = refl
no-else (Word word ∷ more) h = not-false (bytes_eq word (codes "else")) h
no-else (Sign sign ∷ more) h = refl
no-else (Digits n ∷ more) h = refl
no-else (Quoted bytes ∷ more) h = refl
no-else (Including ∷ more) h = refl
no-else (Bad ∷ more) h = refl

pub statements-no-else : {scope : Scope} {all : List CStmt} {p q : Tokens} → OfNames scope → ReadsStmts scope all p q → begins_else p ≡ false
statements-no-else of (form.closed a) = ap begins_else a
statements-no-else of (form.one_more {p = p} a b) = no-else p (statement-goes of a)

-- ## Where no call begins

module _ (scope : Scope) where
  name-stops : (n place : ℕ) (name : List ℕ) (behind : Tokens) → word_lead scope name ≡ Some Named
      → expression scope (suc (suc n)) place (Word name ∷ Sign (codes "(") ∷ behind) ≡ found (expr.Name name) (Sign (codes "(") ∷ behind)
  unfolding readers_opened
  name-stops n place name behind lead = rw (lead) refl

  starred-stops : (n place : ℕ) (name : List ℕ) (behind : Tokens) → word_lead scope name ≡ Some Named
      → expression scope (suc (suc (suc (suc n)))) place (Sign (codes "(") ∷ Sign (codes "*") ∷ Word name ∷ Sign (codes ")") ∷ Sign (codes "(") ∷ behind)
      ≡ found (expr.Unary prefix.Deref (expr.Name name)) (Sign (codes "(") ∷ behind)
  unfolding readers_opened
  starred-stops n place name behind lead = rw (lead) refl

  rest_of : Option (Outcome CExpr) → Tokens
  rest_of None = []
  rest_of (Some (Ok x)) = x.1
  rest_of (Some (Err rest)) = rest

  same-rest : (one other : CExpr) (p q : Tokens) → found one p ≡ found other q → q ≡ p
  unfolding rest_of
  same-rest one other p q h = sym (ap rest_of h)

  call-stops : (place : ℕ) (e : CExpr) (p q : Tokens) → InOrder scope → CallStart scope p → Eventually (λ n. expression scope n place p ≡ found e q)
      → starts_with (codes "(") q ≡ true
  call-stops place e p q good (by_name name behind known is) whole =
      ap (starts_with (codes "("))
      (same-rest (expr.Name name) e (Sign (codes "(") ∷ behind) q
      (sym (name-stops whole.first place name behind
      (name-lead scope name (name-free name (among-names name scope.functions good.of_names.functions known)) (text.declared_before (text.a_function known))))
      ∙ (ap (expression scope (suc (suc whole.first)) place) (sym is) ∙ whole.holds (suc (suc whole.first)) (omega arith))))
  call-stops place e p q good (through name behind known is) whole =
      ap (starts_with (codes "("))
      (same-rest (expr.Unary prefix.Deref (expr.Name name)) e (Sign (codes "(") ∷ behind) q
      (sym (starred-stops whole.first place name behind (known-pointer scope name good known))
      ∙ (ap (expression scope (suc (suc (suc (suc whole.first)))) place) (sym is) ∙ whole.holds (suc (suc (suc (suc whole.first)))) (omega arith))))

  pub no-call : (place : ℕ) (e : CExpr) (p q : Tokens) → InOrder scope → ReadsExpr scope place e p q → place ≤ 9 → EndsAt place q → starts_with (codes "(") q ≡ false
      → begins_call scope p ≡ false
  no-call place e p q good reads top ends other = by (begins_call scope p) refl
    where
      by : (begins : Bool) → begins_call scope p ≡ begins → begins ≡ false
      by false h = refl
      by true h =
          absurd (let k : true ≡ false = sym (call-stops place e p q good (call-start scope p h) (reads-whole scope place e p q good.of_names reads top ends)) ∙ other in cc)

  pub call-begins : {one : CCall} {p q : Tokens} → ReadsCall scope one p q → begins_call scope p ≡ true
  call-begins (text.by_name name {r = r} known a b c) = ap (begins_call scope) (a ∙ ap (λ z. Word name ∷ z) b) ∙ name-begins scope name r known
  call-begins (text.through_a_parameter name {u = u} known a b c d e f) =
      ap (begins_call scope)
      (a ∙ ap (λ z. Sign (codes "(") ∷ z) (b ∙ ap (λ z. Sign (codes "*") ∷ z) (c ∙ ap (λ z. Word name ∷ z) (d ∙ ap (λ z. Sign (codes ")") ∷ z) e))))
      ∙ through-begins scope name u known

  -- ## Where no label stands

  abbrev pub labels_here : LabelsOf → Tokens → Bool
  labels_here before (Word word ∷ more) = is_label scope before word more
  labels_here before other = false

  abbrev operand_then : ℕ → ℕ → List ℕ → Tokens → Option WordLead → Option (Outcome CExpr)
  operand_then n place word more o = reader.by_word (expression scope n) word more o >>= (λ first. expression_behind scope n place first.level first.tree)

  some-lead : (n place : ℕ) (word : List ℕ) (more : Tokens) (o : Option WordLead) (e : CExpr) (q : Tokens) → operand_then n place word more o ≡ found e q → is_no_lead o ≡ false
  unfolding reader.by_word
  some-lead n place word more None e q h = absurd (let k : Some (Err (Word word ∷ more)) ≡ Some (Ok (e, q)) = h in cc)
  some-lead n place word more (Some lead) e q h = refl

  colon-by : (n place : ℕ) (word : List ℕ) (behind : Tokens) (o : Option WordLead) (e : CExpr) (q : Tokens)
      → operand_then (suc n) place word (Sign (codes ":") ∷ behind) o ≡ found e q → starts_with (codes ":") q ≡ true
  unfolding readers_opened
  colon-by n place word behind (Some Named) e q h =
      ap (starts_with (codes ":")) (same-rest (expr.Name word) e (Sign (codes ":") ∷ behind) q h)
  colon-by n place word behind (Some Sized) e q h = absurd (let k : Some (Err (Sign (codes ":") ∷ behind)) ≡ Some (Ok (e, q)) = h in cc)
  colon-by n place word behind (Some (Extremal which)) e q h = absurd (let k : Some (Err (Sign (codes ":") ∷ behind)) ≡ Some (Ok (e, q)) = h in cc)
  colon-by n place word behind (Some Absolute) e q h = absurd (let k : Some (Err (Sign (codes ":") ∷ behind)) ≡ Some (Ok (e, q)) = h in cc)
  colon-by n place word behind None e q h = absurd (let k : Some (Err (Word word ∷ Sign (codes ":") ∷ behind)) ≡ Some (Ok (e, q)) = h in cc)

  word-opens : (n place : ℕ) (word : List ℕ) (more : Tokens) → expression scope (suc n) place (Word word ∷ more) ≡ operand_then n place word more (word_lead scope word)
  unfolding reader.expression reader.operand
  word-opens n place word more = refl

  no-colon : (place : ℕ) (e : CExpr) (word : List ℕ) (more q : Tokens) → Eventually (λ n. expression scope n place (Word word ∷ more) ≡ found e q)
      → starts_with (codes ":") q ≡ false → (colon : Bool) → starts_with (codes ":") more ≡ colon → colon ≡ false
  no-colon place e word more q whole other false h = refl
  no-colon place e word more q whole other true h =
      let s = starts (codes ":") more h in
      absurd
      (let k : true ≡ false =
      sym (colon-by whole.first place word s.behind (word_lead scope word) e q
      (ap (λ z. operand_then (suc whole.first) place word z (word_lead scope word)) (sym s.is)
      ∙ (sym (word-opens (suc whole.first) place word more) ∙ whole.holds (suc (suc whole.first)) (omega arith))))
      ∙ other in cc)

  no-label-by : (place : ℕ) (e : CExpr) (before : LabelsOf) (p q : Tokens) → Eventually (λ n. expression scope n place p ≡ found e q) → starts_with (codes ":") q ≡ false
      → labels_here before p ≡ false
  no-label-by place e before [] q whole other = refl
  no-label-by place e before (Word word ∷ more) q whole other =
      and_right (may_stand before word) (starts_with (codes ":") more || is_no_lead (word_lead scope word))
      (ap (λ z. z || is_no_lead (word_lead scope word)) (no-colon place e word more q whole other (starts_with (codes ":") more) refl)
      ∙ some-lead whole.first place word more (word_lead scope word) e q (sym (word-opens whole.first place word more) ∙ whole.holds (suc whole.first) (omega arith)))
  no-label-by place e before (Sign sign ∷ more) q whole other = refl
  no-label-by place e before (Digits n ∷ more) q whole other = refl
  no-label-by place e before (Quoted bytes ∷ more) q whole other = refl
  no-label-by place e before (Including ∷ more) q whole other = refl
  no-label-by place e before (Bad ∷ more) q whole other = refl

  pub expression-no-label : (place : ℕ) (e : CExpr) (before : LabelsOf) (p q : Tokens) → InOrder scope → ReadsExpr scope place e p q → place ≤ 9 → EndsAt place q
      → starts_with (codes ":") q ≡ false → labels_here before p ≡ false
  expression-no-label place e before p q good reads top ends other = no-label-by place e before p q (reads-whole scope place e p q good.of_names reads top ends) other

  pub call-no-label : {one : CCall} {p q : Tokens} (before : LabelsOf) → OfNames scope → ReadsCall scope one p q → labels_here before p ≡ false
  call-no-label before of (text.by_name name {r = r} known a b c) =
      ap (labels_here before) (a ∙ ap (λ z. Word name ∷ z) b)
      ∙ and_right (may_stand before name) (is_no_lead (word_lead scope name))
      (ap is_no_lead (name-lead scope name (name-free name (among-names name scope.functions of.functions known)) (text.declared_before (text.a_function known))))
  call-no-label before of (text.through_a_parameter name known a b c d e f) = ap (labels_here before) a
