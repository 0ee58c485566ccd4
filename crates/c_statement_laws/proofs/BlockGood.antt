-- Statements up to a closing brace are read as they stand, where each statement is.
use Rattle.std.proofs.Common.{◌≡◌, refl, sym, ap, ◌∙◌, subst, ℕ, zero, suc, ◌≤◌, le_refl, Bool, true, false, List, [], ◌∷◌, ◌++◌, append_assoc, append-nil, length, codes, bytes_eq, arith}
use Rattle.c_grammar_laws.specs.c_tree.declared.expression.CExpr.{CExpr}
use Rattle.c_grammar_laws.specs.c_tree.declared.expression.CCall.{CCall}
use Rattle.c_grammar_laws.specs.c_tree.declared.statement.CNext.{CNext}
use Rattle.c_grammar_laws.specs.c_tree.declared.statement.CStmt.{CStmt}
use Rattle.c_grammar_laws.specs.c_tree.Tokens.{Token, Word, Sign}
use Rattle.c_grammar_laws.specs.c_tree.CWords.{ASign}
use Rattle.c_grammar_laws.specs.c_tree.CLabels.{LabelsOf, both, labels_of, labels_of_all}
use Rattle.c_grammar_laws.specs.c_tree.CExpressionText.{Scope, ReadsCall, by_name, through_a_parameter}
use Rattle.c_grammar_laws.specs.c_tree.CStatementText as text
use Rattle.c_grammar_laws.specs.c_tree.CStatementText.{ReadsStmt, ReadsStmts, ReadsTested, ReadsFor}
use Rattle.c_grammar_laws.specs.c_readers.Readers.{Tokens, Reader}
use Rattle.c_grammar_laws.specs.grammar.Exactness.{head, Filled, Judged, Good}
use Rattle.c_grammar_laws.proofs.grammar.Judging.{Onto, judged-then-some, in_turn, good-as, good-fewer, judged-also, refuses, takes-one, at-the-token, at-the-end}
use Rattle.c_grammar_laws.proofs.TokenGood.{equal-texts, OneSign, good-sign}
use Rattle.c_grammar_laws.proofs.ExpressionTables.{expression-shorter}
use Rattle.c_statement_readers.specs.LabelTests.{can_meet}
use Rattle.c_statement_readers.specs.StatementReader.{Inner, closing, first_and_more, by_brace, statements, closes_anywhere, block, braced}
use Rattle.c_statement_laws.specs.StatementLaws.{StatementIs, StatementsAre}
use Rattle.c_statement_laws.proofs.LabelLaws.{both-assoc, both-none}

-- ## A statement takes a token

at-least : (token : Token) (p q : Tokens) → p ≡ token ∷ q → 1 ≤ length p
at-least token p q h = subst (λ z. 1 ≤ length z) (sym h) (omega arith)

tested-some : {scope : Scope} {word : List ℕ} {e : CExpr} {p q : Tokens} → ReadsTested scope word e p q → 1 ≤ length p
tested-some (text.tested word {p = p} {q = q} a b c d) = at-least (Word word) p q a

for-some : {scope : Scope} {target first test : CExpr} {turn : CNext} {p q : Tokens} → ReadsFor scope target first test turn p q → 1 ≤ length p
for-some (text.for_head {p = p} {q = q} a b c d e f g h i j) = at-least (Word (codes "for")) p q a

call-some : {scope : Scope} {one : CCall} {p q : Tokens} → ReadsCall scope one p q → 1 ≤ length p
call-some (by_name name {p = p} {q = q} known a b c) = at-least (Word name) p q a
call-some (through_a_parameter name {p = p} {q = q} known a b c d e f) = at-least (Sign (codes "(")) p q a

pub statement-some : {scope : Scope} {one : CStmt} {p q : Tokens} → ReadsStmt scope one p q → 1 ≤ length p
statement-some (text.assigned a b c d) = let k = expression-shorter a in omega (arith, k)
statement-some (text.assigned_call a b c d) = let k = expression-shorter a in omega (arith, k)
statement-some (text.called c d) = call-some c
statement-some (text.empty {p = p} {q = q} a) = at-least (Sign (codes ";")) p q a
statement-some (text.a_block {p = p} {q = q} a b) = at-least (Sign (codes "{")) p q a
statement-some (text.labelled label {p = p} {q = q} n a b c) = at-least (Word label) p q a
statement-some (text.jump label {p = p} {q = q} a b c) = at-least (Word (codes "goto")) p q a
statement-some (text.returned {p = p} {q = q} a b) = at-least (Word (codes "return")) p q a
statement-some (text.returned_value {p = p} {q = q} a b c) = at-least (Word (codes "return")) p q a
statement-some (text.returned_call {p = p} {q = q} a b c) = at-least (Word (codes "return")) p q a
statement-some (text.if_only a b c) = tested-some a
statement-some (text.if_else a b c d e f) = tested-some a
statement-some (text.switched o a b c) = tested-some a
statement-some (text.repeated_for a b c) = for-some a
statement-some (text.repeated_do {p = p} {q = q} a b c d e) = at-least (Word (codes "do")) p q a

pub no-statement : {scope : Scope} {before : LabelsOf} (one : CStmt) → StatementIs scope before one [] [] → ⊥
no-statement one is = let k : 1 ≤ 0 = statement-some is.reads in omega (arith, k)

-- ## Statements behind others

module _ (scope : Scope) (closes : LabelsOf → Bool) where
  -- Statements behind others.
  pub record StatementsBehind (before : LabelsOf) (items all : List CStmt) (p q : Tokens) : Type 0 where
    pub later : List CStmt
    pub whole : all ≡ items ++ later
    pub are : StatementsAre scope closes before later p q

  closed-behind : (before : LabelsOf) (items : List CStmt) (p q : Tokens) → can_meet before ≡ true → closes before ≡ true → ASign (codes "}") p q
      → StatementsBehind before items items p q
  closed-behind before items p q can ends sign = record {
    later = [];
    whole = sym (append-nil items);
    are = record { reads = text.closed sign; can = ap can_meet (both-none before) ∙ can; closed = ap closes (both-none before) ∙ ends };
  }

  more-behind : (before : LabelsOf) (items : List CStmt) (one : CStmt) (all : List CStmt) (p q r : Tokens) → StatementIs scope before one p q
      → StatementsBehind (both before (labels_of one)) (items ++ (one ∷ [])) all q r → StatementsBehind before items all p r
  more-behind before items one all p q r is more = record {
    later = one ∷ more.later;
    whole = more.whole ∙ append_assoc items (one ∷ []) more.later;
    are = record {
      reads = text.one_more is.reads more.are.reads;
      can = ap can_meet (sym (both-assoc before (labels_of one) (labels_of_all more.later))) ∙ more.are.can;
      closed = ap closes (sym (both-assoc before (labels_of one) (labels_of_all more.later))) ∙ more.are.closed;
    };
  }

  behind-able : (before : LabelsOf) (items : List CStmt) → Filled (StatementsAre scope closes before) [] → Filled (StatementsBehind before items) []
  behind-able before items f = record {
    later = f.later;
    tree = items ++ f.tree;
    spelled = λ behind. record { later = f.tree; whole = refl; are = f.spelled behind };
  }

  module _ (inner above : Inner) (able : (before : LabelsOf) → can_meet before ≡ true → Filled (StatementsAre scope closes before) []) where
    module _ (nests fewer count most : ℕ) (before : LabelsOf) (items : List CStmt) (can : can_meet before ≡ true) (least : nests ≤ suc fewer)
        (good_one : Good nests (StatementIs scope before) (inner before) (above before))
        (good : (one : CStmt) → can_meet (both before (labels_of one)) ≡ true
        → Good fewer (StatementsBehind (both before (labels_of one)) (items ++ (one ∷ []))) (statements inner closes count (both before (labels_of one)) (items ++ (one ∷ [])))
        (statements above closes most (both before (labels_of one)) (items ++ (one ∷ [])))) where
      abbrev further : Inner → ℕ → CStmt → Reader (List CStmt)
      further from many one = statements from closes many (both before (labels_of one)) (items ++ (one ∷ []))

      first-judged : (tokens : Tokens)
          → Judged nests (StatementsBehind before items) (first_and_more above (further above most) before) tokens (first_and_more inner (further inner count) before tokens)
      unfolding first_and_more
      first-judged tokens =
          judged-then-some (StatementIs scope before) (Onto (StatementIs scope before) (StatementsBehind before items)) (StatementsBehind before items) (λ x y p q r f n. n p f) nests fewer
          (above before) (further inner count) (further above most) tokens least no-statement
          (λ one p0 q0 is. good-as (λ all q r more p one_is. more-behind before items one all p q r one_is more) (good one is.can)) (inner before tokens) (good_one.judged tokens)

      as-first : (tokens : Tokens) → ((p : Tokens) → head p ≡ head tokens → statements above closes (suc most) before items p ≡ first_and_more above (further above most) before p)
          → Judged nests (StatementsBehind before items) (statements above closes (suc most) before items) tokens (first_and_more inner (further inner count) before tokens)
      as-first tokens same =
          judged-also (StatementsBehind before items) nests tokens same (first_and_more inner (further inner count) before tokens) (first-judged tokens)

      closing-by : (sign : List ℕ) (behind : Tokens) → sign ≡ codes "}" → (ends : Bool) → closes before ≡ ends
          → ((p : Tokens) → statements above closes (suc most) before items (Sign sign ∷ p) ≡ closing before closes items sign p (closes before))
          → Judged nests (StatementsBehind before items) (statements above closes (suc most) before items) (Sign sign ∷ behind) (closing before closes items sign behind ends)
      unfolding closing
      closing-by sign behind is true h says =
          takes-one nests items (Sign sign) behind (λ p. closed-behind before items (Sign sign ∷ p) p can h (ap (λ z. Sign z ∷ p) is))
          (λ p. says p ∙ ap (closing before closes items sign p) h)
      closing-by sign behind is false h says =
          refuses nests (Sign sign) behind (behind-able before items (able before can)) (λ p. says p ∙ ap (closing before closes items sign p) h)

      by-brace : (sign : List ℕ) (behind : Tokens) (does : Bool) → bytes_eq sign (codes "}") ≡ does
          → Judged nests (StatementsBehind before items) (statements above closes (suc most) before items) (Sign sign ∷ behind)
          (by_brace inner (further inner count) closes before items sign behind does)
      unfolding statements by_brace
      by-brace sign behind true h =
          closing-by sign behind (equal-texts sign (codes "}") h) (closes before) refl (λ p. ap (by_brace above (further above most) closes before items sign p) h)
      by-brace sign behind false h =
          as-first (Sign sign ∷ behind)
          (at-the-token (λ p. statements above closes (suc most) before items p ≡ first_and_more above (further above most) before p) (Sign sign)
          (λ p. ap (by_brace above (further above most) closes before items sign p) h))

      more-judged : (tokens : Tokens)
          → Judged nests (StatementsBehind before items) (statements above closes (suc most) before items) tokens (statements inner closes (suc count) before items tokens)
      unfolding statements
      more-judged [] =
          as-first [] (at-the-end (λ p. statements above closes (suc most) before items p ≡ first_and_more above (further above most) before p) refl)
      more-judged (Sign sign ∷ behind) = by-brace sign behind (bytes_eq sign (codes "}")) refl
      more-judged (token ∷ behind) =
          as-first (token ∷ behind)
          (at-the-token (λ p. statements above closes (suc most) before items p ≡ first_and_more above (further above most) before p) token (λ p. refl))

      good-more : Good nests (StatementsBehind before items) (statements inner closes (suc count) before items) (statements above closes (suc most) before items)
      good-more = record { able = behind-able before items (able before can); judged = more-judged }

    no-count : (nests most : ℕ) (before : LabelsOf) (items : List CStmt) → nests ≤ 0 → can_meet before ≡ true
        → Good nests (StatementsBehind before items) (statements inner closes zero before items) (statements above closes most before items)
    unfolding statements
    no-count nests most before items low can = record { able = behind-able before items (able before can); judged = λ tokens. omega (arith, low) }

    pub good-statements : (nests count most : ℕ) (before : LabelsOf) (items : List CStmt) → nests ≤ count → count ≤ most → can_meet before ≡ true
        → ((labels : LabelsOf) → can_meet labels ≡ true → Good nests (StatementIs scope labels) (inner labels) (above labels))
        → Good nests (StatementsBehind before items) (statements inner closes count before items) (statements above closes most before items)
    good-statements nests zero most before items low high can good = no-count nests most before items low can
    good-statements nests (suc count) zero before items low high can good = absurd (let h : suc count ≤ 0 = high in omega (arith, h))
    good-statements zero (suc count) (suc most) before items low high can good =
        good-more zero zero count most before items can (omega arith) (good before can)
        (λ one c. good-statements zero count most (both before (labels_of one)) (items ++ (one ∷ [])) (omega arith) (omega (arith, high)) c good)
    good-statements (suc nests) (suc count) (suc most) before items low high can good =
        good-more (suc nests) nests count most before items can (le_refl (suc nests)) (good before can)
        (λ one c. good-statements nests count most (both before (labels_of one)) (items ++ (one ∷ [])) (omega (arith, low)) (omega (arith, high)) c
        (λ labels g. good-fewer nests (suc nests) (omega arith) (good labels g)))

    pub good-all : (nests count most : ℕ) (before : LabelsOf) → nests ≤ count → count ≤ most → can_meet before ≡ true
        → ((labels : LabelsOf) → can_meet labels ≡ true → Good nests (StatementIs scope labels) (inner labels) (above labels))
        → Good nests (StatementsAre scope closes before) (statements inner closes count before []) (statements above closes most before [])
    good-all nests count most before low high can good =
        good-as (λ all p q b. subst (λ z. StatementsAre scope closes before z p q) (sym b.whole) b.are) (good-statements nests count most before [] low high can good)

-- ## Blocks

module _ (scope : Scope) where
  anywhere-able : (before : LabelsOf) → can_meet before ≡ true → Filled (StatementsAre scope closes_anywhere before) []
  anywhere-able before can = record {
    later = Sign (codes "}") ∷ [];
    tree = [];
    spelled = λ behind. record { reads = text.closed refl; can = ap can_meet (both-none before) ∙ can; closed = refl };
  }

  -- A block in braces.
  pub record BracedAre (before : LabelsOf) (all : List CStmt) (p q : Tokens) : Type 0 where
    pub middle : Tokens
    pub opens : ASign (codes "{") p middle
    pub reads : ReadsStmts scope all middle q
    pub can : can_meet (both before (labels_of_all all)) ≡ true

  module _ (inner above : Inner) (nests count most : ℕ) (low : nests ≤ count) (high : count ≤ most)
      (good : (labels : LabelsOf) → can_meet labels ≡ true → Good nests (StatementIs scope labels) (inner labels) (above labels)) where
    pub good-block : (before : LabelsOf) → can_meet before ≡ true → Good nests (StatementsAre scope closes_anywhere before) (block inner count before) (block above most before)
    unfolding block
    good-block before can = good-all scope closes_anywhere inner above anywhere-able nests count most before low high can good

    pub good-braced : (before : LabelsOf) → can_meet before ≡ true → Good nests (BracedAre before) (braced inner count before) (braced above most before)
    unfolding braced
    good-braced before can =
        in_turn {First = OneSign (codes "{")} (good-sign (codes "{"))
        (λ u. good-as (λ all p q are front opens. record { middle = p; opens = opens; reads = are.reads; can = are.can }) (good-block before can))
