-- Statements are read as they stand.
use Rattle.std.proofs.Common.{◌≡◌, refl, sym, ap, ◌∙◌, subst, ℕ, zero, suc, ◌≤◌, Bool, true, false, ◌||◌, List, [], ◌∷◌, codes, Option, Some, None, arith}
use Rattle.std.proofs.lemmas.Bool.{and_from, and_right, or_right}
use Rattle.c_grammar_laws.specs.c_tree.declared.statement.CStmt.{CStmt}
use Rattle.c_grammar_laws.specs.c_tree.declared.statement.CStmt.TheVariants as stmt
use Rattle.c_grammar_laws.specs.c_tree.Tokens.{Word, Sign}
use Rattle.c_grammar_laws.specs.c_tree.CWords.{is_among}
use Rattle.c_grammar_laws.specs.c_tree.CLabels.{LabelsOf, both, no_label, standing, labels_of}
use Rattle.c_grammar_laws.specs.c_tree.CExpressionText.{Scope}
use Rattle.c_grammar_laws.specs.c_tree.CStatementText as text
use Rattle.c_grammar_laws.specs.c_readers.Readers.{Tokens, Reader, found, lookup, ◌>>=◌, a_sign}
use Rattle.c_grammar_laws.specs.c_readers.ExpressionReader.{WordLead, word_lead, expression}
use Rattle.c_grammar_laws.specs.grammar.Exactness.{head, Judged, Good}
use Rattle.c_grammar_laws.proofs.grammar.Judging.{in_turn, good-found, judged-also, behind-token, takes-one, at-the-token, at-the-end}
use Rattle.c_grammar_laws.proofs.TokenGood.{OneSign, good-sign}
use Rattle.c_grammar_laws.proofs.ExpressionTables.{row-found}
use Rattle.c_statement_readers.specs.LabelTests.{can_meet, may_stand, with_label}
use Rattle.c_statement_readers.specs.PartReader.{starts_with, begins_call, assigned, assignment, simple_by, simple}
use Rattle.c_statement_readers.specs.StatementReader as reader
use Rattle.c_statement_readers.specs.StatementReader.{Inner, labelled, is_no_lead, is_label, by_label, by_word, StatementLead, statement_words, led, SignLead, Nothing, Opening, statement_signs, by_sign, block, a_statement, statement}
use Rattle.c_statement_laws.specs.StatementLaws.{InOrder, StatementIs, StatementsAre, GoodStatements, GoodBlocks}
use Rattle.c_statement_laws.proofs.LabelLaws.{both-true, both-assoc, can-none, standable, can-stand, labels-label, labels-empty, labels-block}
use Rattle.c_statement_laws.proofs.Divergence.{Ends, ends-then, Probe, test-judged}
use Rattle.c_statement_laws.proofs.CallProbes.{starts, by-lead-some}
use Rattle.c_statement_laws.proofs.SimpleGood.{good-simple}
use Rattle.c_statement_laws.proofs.BlockGood.{good-block}
use Rattle.c_statement_laws.proofs.FormGood.{Led, lead_word, lead-found, good-led}

module _ (scope : Scope) (before : LabelsOf) where
  abbrev Is : CStmt → Tokens → Tokens → Type 0
  Is one p q = StatementIs scope before one p q

  -- ## Labels

  label-is : (label : List ℕ) (one : CStmt) (p q r : Tokens) → may_stand before label ≡ true → StatementIs scope (with_label before label) one q r → p ≡ Sign (codes ":") ∷ q
      → Is (stmt.Label label one) (Word label ∷ p) r
  label-is label one p q r may is colon = record {
    reads = text.labelled label (standable before label may).named refl colon is.reads;
    can = ap (λ z. can_meet (both before z)) (labels-label label one) ∙ (ap can_meet (sym (both-assoc before (standing label no_label) (labels_of one))) ∙ is.can);
  }

  module _ (inner above : Inner) (nests : ℕ) (can : can_meet before ≡ true)
      (good_inner : (labels : LabelsOf) → can_meet labels ≡ true → Good nests (StatementIs scope labels) (inner labels) (above labels)) where
    good-labelled : (label : List ℕ) → may_stand before label ≡ true
        → Good nests (λ one p q. Is one (Word label ∷ p) q) (labelled inner before label) (labelled above before label)
    unfolding labelled
    good-labelled label may =
        in_turn {First = OneSign (codes ":")} (good-sign (codes ":"))
        (λ u. in_turn {First = StatementIs scope (with_label before label)} (good_inner (with_label before label) (can-stand before label can (standable before label may)))
        (λ one. good-found (stmt.Label label one) (λ q p1 is p0 colon. label-is label one p0 p1 q may is colon)))

  -- whether a word is a label shows in the token behind it where an expression may begin with the word
  abbrev labels_here : Tokens → Bool
  labels_here (Word word ∷ more) = is_label scope before word more
  labels_here other = false

  module _ (count most : ℕ) (above : Inner) where
    -- a statement that a word begins which is in no table
    abbrev worded : Bool → Reader CStmt
    worded way (Word word ∷ more) = by_label scope most above before word more way
    worded way other = None

    call-none : (word : List ℕ) → begins_call scope (Word word ∷ []) ≡ false
    call-none word = and_right (is_among word scope.functions) false refl

    simple-ends : (word : List ℕ) (lead : WordLead) → word_lead scope word ≡ Some lead → Ends (simple scope most (Word word ∷ []))
    unfolding simple simple_by assignment assigned a_sign
    simple-ends word lead h =
        subst (λ z. Ends (simple_by scope most z (Word word ∷ []))) (sym (call-none word))
        (ends-then (assigned scope most) (expression scope most 7 (Word word ∷ [])) (by-lead-some scope most 7 most word lead h) (λ e. refl))

    labelled-ends : (word : List ℕ) → Ends (labelled above before word [])
    unfolding labelled a_sign
    labelled-ends word = refl

    word-ends : (word : List ℕ) (lead : WordLead) → word_lead scope word ≡ Some lead → (way : Bool) → Ends (worded way (Word word ∷ []))
    unfolding by_label
    word-ends word lead h true = labelled-ends word
    word-ends word lead h false = simple-ends word lead h

    by-lead : (word : List ℕ) (behind : Tokens) (o : Option WordLead) → word_lead scope word ≡ o → may_stand before word ≡ true
        → (starts_with (codes ":") behind || is_no_lead o) ≡ true → Probe labels_here worded (Word word ∷ behind)
    by-lead word behind None h may k = record {
      front = [];
      token = Word word;
      behind = behind;
      whole = refl;
      again = λ p. and_from (may_stand before word) (starts_with (codes ":") p || is_no_lead (word_lead scope word)) may
          (or_right (starts_with (codes ":") p) (is_no_lead (word_lead scope word)) (ap is_no_lead h));
      ends = λ way. tt;
    }
    by-lead word behind (Some lead) h may k =
        let s = starts (codes ":") behind (by-or (starts_with (codes ":") behind) k) in record {
          front = Word word ∷ [];
          token = Sign (codes ":");
          behind = s.behind;
          whole = ap (λ z. Word word ∷ z) s.is;
          again = λ p. and_from (may_stand before word) true may refl;
          ends = word-ends word lead h;
        }
      where
        by-or : (b : Bool) → (b || false) ≡ true → b ≡ true
        by-or true e = refl
        by-or false e = e

    label-probe : (tokens : Tokens) → labels_here tokens ≡ true → Probe labels_here worded tokens
    label-probe [] h = absurd (let e : false ≡ true = h in cc)
    label-probe (Word word ∷ behind) h =
        let k = both-true (may_stand before word) (starts_with (codes ":") behind || is_no_lead (word_lead scope word)) h in
        by-lead word behind (word_lead scope word) refl k.0 k.1
    label-probe (token ∷ behind) h = absurd (let e : false ≡ true = h in cc)

    module _ (inner : Inner) (nests : ℕ) (can : can_meet before ≡ true) (good_simple : Good (suc nests) Is (simple scope count) (simple scope most))
        (good_inner : (labels : LabelsOf) → can_meet labels ≡ true → Good nests (StatementIs scope labels) (inner labels) (above labels)) where
      way-judged : (word : List ℕ) (behind : Tokens) (way : Bool) → is_label scope before word behind ≡ way
          → Judged (suc nests) Is (worded way) (Word word ∷ behind) (by_label scope count inner before word behind way)
      unfolding by_label
      way-judged word behind true h =
          let k = both-true (may_stand before word) (starts_with (codes ":") behind || is_no_lead (word_lead scope word)) h in
          behind-token (λ one p q. Is one (Word word ∷ p) q) Is (labelled above before word) (worded true) nests (Word word) behind (λ one p q is. is) (λ p. refl) (labelled inner before word behind)
          ((good-labelled inner above nests can good_inner word k.0).judged behind)
      way-judged word behind false h =
          judged-also Is (suc nests) (Word word ∷ behind) (at-the-token (λ p. worded false p ≡ simple scope most p) (Word word) (λ p. refl)) (simple scope count (Word word ∷ behind))
          (good_simple.judged (Word word ∷ behind))

      word-judged : (word : List ℕ) (behind : Tokens)
          → Judged (suc nests) Is (λ ts. worded (labels_here ts) ts) (Word word ∷ behind) (by_label scope count inner before word behind (is_label scope before word behind))
      word-judged word behind =
          test-judged labels_here worded Is label-probe (suc nests) (Word word ∷ behind) (is_label scope before word behind) refl
          (by_label scope count inner before word behind (is_label scope before word behind)) (way-judged word behind (is_label scope before word behind) refl)

  -- ## Statements

  abbrev pub sign_text : SignLead → List ℕ
  sign_text Nothing = codes ";"
  sign_text Opening = codes "{"

  pub sign-found : (sign : List ℕ) (lead : SignLead) → lookup sign statement_signs ≡ Some lead → sign ≡ sign_text lead
  sign-found sign lead h = row-found (λ word lead. word ≡ sign_text lead) sign lead statement_signs (refl, (refl, tt)) h

  empty-is : (p : Tokens) → can_meet before ≡ true → Is stmt.Empty (Sign (codes ";") ∷ p) p
  empty-is p can = record { reads = text.empty refl; can = can-none before stmt.Empty labels-empty can }

  block-is : (all : List CStmt) (p q : Tokens) → StatementsAre scope reader.closes_anywhere before all p q → Is (stmt.Block all) (Sign (codes "{") ∷ p) q
  block-is all p q are = record { reads = text.a_block refl are.reads; can = ap (λ z. can_meet (both before z)) (labels-block all) ∙ are.can }

  module _ (good : InOrder scope) (can : can_meet before ≡ true) (inner above : Inner) (nests count most : ℕ) (low : suc nests ≤ count) (high : count ≤ most)
      (good_inner : (labels : LabelsOf) → can_meet labels ≡ true → Good nests (StatementIs scope labels) (inner labels) (above labels)) where
    simple_too : Good (suc nests) Is (simple scope count) (simple scope most)
    simple_too = good-simple scope good (suc nests) count most low high before can

    as-simple : (tokens : Tokens) → ((p : Tokens) → head p ≡ head tokens → a_statement scope most above before p ≡ simple scope most p)
        → Judged (suc nests) Is (a_statement scope most above before) tokens (simple scope count tokens)
    as-simple tokens same = judged-also Is (suc nests) tokens same (simple scope count tokens) (simple_too.judged tokens)

    lead_too : (lead : StatementLead) → Good nests (Led scope before (lead_word lead)) (λ more. led scope count inner before more lead) (λ more. led scope most above before more lead)
    lead_too lead = good-led scope before inner above nests count most (omega (arith, low)) high good_inner good can lead

    by-word : (word : List ℕ) (behind : Tokens) (o : Option StatementLead) → lookup word statement_words ≡ o
        → Judged (suc nests) Is (a_statement scope most above before) (Word word ∷ behind) (by_word scope count inner before word behind o)
    unfolding a_statement by_word
    by-word word behind (Some lead) h =
        behind-token (Led scope before (lead_word lead)) Is (λ more. led scope most above before more lead) (a_statement scope most above before) nests (Word word) behind
        (λ one p q is. subst (λ z. Is one (Word z ∷ p) q) (sym (lead-found word lead h)) is) (λ p. ap (by_word scope most above before word p) h) (led scope count inner before behind lead)
        ((lead_too lead).judged behind)
    by-word word behind None h =
        judged-also Is (suc nests) (Word word ∷ behind)
        (at-the-token (λ p. a_statement scope most above before p ≡ worded count most above (labels_here p) p) (Word word) (λ p. ap (by_word scope most above before word p) h))
        (by_label scope count inner before word behind (is_label scope before word behind))
        (word-judged count most above inner nests can simple_too good_inner word behind)

    block_too : Good nests (StatementsAre scope reader.closes_anywhere before) (block inner count before) (block above most before)
    block_too = good-block scope inner above nests count most (omega (arith, low)) high good_inner before can

    good-braces : Good nests (λ one p q. Is one (Sign (codes "{") ∷ p) q) (λ more. block inner count before more >>= (λ body. found (stmt.Block body)))
        (λ more. block above most before more >>= (λ body. found (stmt.Block body)))
    good-braces = in_turn {First = StatementsAre scope reader.closes_anywhere before} block_too (λ body. good-found (stmt.Block body) (λ q p are. block-is body p q are))

    by-sign : (sign : List ℕ) (behind : Tokens) (o : Option SignLead) → lookup sign statement_signs ≡ o
        → Judged (suc nests) Is (a_statement scope most above before) (Sign sign ∷ behind) (by_sign scope count inner before sign behind o)
    unfolding a_statement by_sign
    by-sign sign behind (Some Nothing) h =
        takes-one (suc nests) stmt.Empty (Sign sign) behind (λ p. subst (λ z. Is stmt.Empty (Sign z ∷ p) p) (sym (sign-found sign Nothing h)) (empty-is p can))
        (λ p. ap (by_sign scope most above before sign p) h)
    by-sign sign behind (Some Opening) h =
        behind-token (λ one p q. Is one (Sign (codes "{") ∷ p) q) Is (λ more. block above most before more >>= (λ body. found (stmt.Block body))) (a_statement scope most above before) nests
        (Sign sign) behind (λ one p q is. subst (λ z. Is one (Sign z ∷ p) q) (sym (sign-found sign Opening h)) is) (λ p. ap (by_sign scope most above before sign p) h)
        (block inner count before behind >>= (λ body. found (stmt.Block body))) (good-braces.judged behind)
    by-sign sign behind None h =
        as-simple (Sign sign ∷ behind)
        (at-the-token (λ p. a_statement scope most above before p ≡ simple scope most p) (Sign sign) (λ p. ap (by_sign scope most above before sign p) h))

    statement-judged : (tokens : Tokens) → Judged (suc nests) Is (a_statement scope most above before) tokens (a_statement scope count inner before tokens)
    unfolding a_statement
    statement-judged [] = as-simple [] (at-the-end (λ p. a_statement scope most above before p ≡ simple scope most p) refl)
    statement-judged (Word word ∷ behind) = by-word word behind (lookup word statement_words) refl
    statement-judged (Sign sign ∷ behind) = by-sign sign behind (lookup sign statement_signs) refl
    statement-judged (token ∷ behind) =
        as-simple (token ∷ behind) (at-the-token (λ p. a_statement scope most above before p ≡ simple scope most p) token (λ p. refl))

    good-a-statement : Good (suc nests) Is (a_statement scope count inner before) (a_statement scope most above before)
    good-a-statement = record {
      able = record { later = Sign (codes ";") ∷ []; tree = stmt.Empty; spelled = λ behind. empty-is behind can };
      judged = statement-judged;
    }

pub good_statements : GoodStatements
unfolding statement
good_statements scope before zero more count most good can least low high = record {
  able = record { later = Sign (codes ";") ∷ []; tree = stmt.Empty; spelled = λ behind. empty-is scope before behind can };
  judged = λ tokens. omega arith;
}
good_statements scope before (suc nests) zero count most good can least low high = absurd (let h : suc nests ≤ 0 = least in omega (arith, h))
good_statements scope before (suc nests) (suc more) count most good can least low high =
    good-a-statement scope before good can (statement scope count nests) (statement scope most more) nests count most low high
    (λ labels c. good_statements scope labels nests more count most good c (omega (arith, least)) (omega (arith, low)) high)

pub good_blocks : GoodBlocks
good_blocks scope before nests more count most good can least low high =
    good-block scope (statement scope count nests) (statement scope most more) nests count most low high
    (λ labels c. good_statements scope labels nests more count most good c least low high) before can
