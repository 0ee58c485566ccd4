-- Statements that a word begins are read as they stand, where those in them are.
use Rattle.std.proofs.Common.{◌≡◌, refl, sym, ap, ◌∙◌, subst, ℕ, suc, ◌≤◌, Bool, true, false, List, [], ◌∷◌, codes, bytes_eq, Some, None, arith}
use Rattle.std.specs.List.{list_all}
use Rattle.std.proofs.lemmas.Bool.{and_from}
use Rattle.c_grammar_laws.specs.c_tree.declared.expression.CExpr.{CExpr}
use Rattle.c_grammar_laws.specs.c_tree.declared.statement.CCase.{CCase}
use Rattle.c_grammar_laws.specs.c_tree.declared.statement.CStmt.{CStmt}
use Rattle.c_grammar_laws.specs.c_tree.declared.statement.CStmt.TheVariants as stmt
use Rattle.c_grammar_laws.specs.c_tree.Tokens.{Word}
use Rattle.c_grammar_laws.specs.c_tree.CWords.{ASign}
use Rattle.c_grammar_laws.specs.c_tree.CLabels.{LabelsOf, both, labels_of, labels_of_all}
use Rattle.c_grammar_laws.specs.c_tree.CExpressionText.{Scope}
use Rattle.c_grammar_laws.specs.c_tree.CStatementText as text
use Rattle.c_grammar_laws.specs.c_tree.CStatementText.{ReadsStmts, ReadsCases, ReadsTested, has_twice, case_numbers}
use Rattle.c_grammar_laws.specs.c_readers.Readers.{Tokens, lookup}
use Rattle.c_grammar_laws.specs.grammar.Exactness.{Filled, Judged, Good}
use Rattle.c_grammar_laws.proofs.grammar.Judging.{in_turn, in_turn_of, good-as, good-found, judged-fewer, behind-token, stays, stays-end}
use Rattle.c_grammar_laws.proofs.TokenGood.{equal-texts, OneSign, good-sign, OneWord, good-word, OneName, good-name}
use Rattle.c_grammar_laws.proofs.ExpressionTables.{row-found}
use Rattle.c_grammar_laws.proofs.FreshNames.{fresh_name}
use Rattle.c_statement_readers.specs.LabelTests.{may_be_named, can_meet}
use Rattle.c_statement_readers.specs.StatementReader as reader
use Rattle.c_statement_readers.specs.StatementReader.{Inner, jump, else_by, otherwise, conditional, switched, counted, repeated, StatementLead, Jumps, Returns, Tests, Switches, Counts, Repeats, statement_words, led}
use Rattle.c_statement_laws.specs.StatementLaws.{InOrder, StatementIs}
use Rattle.c_statement_laws.proofs.LabelLaws.{both-none, naming, labels-goto, case_labels, labels-switch, labels-if, labels-if-else, labels-for, labels-do, can-name}
use Rattle.c_statement_laws.proofs.LabelLaws as labels
use Rattle.c_statement_laws.proofs.SimpleGood.{good-returned}
use Rattle.c_statement_laws.proofs.PartGood.{ForIs, TestedBehind, good-tested, good-for-head}
use Rattle.c_statement_laws.proofs.CaseGood.{fresh-may, CasesBehind, good-cases}
use Rattle.c_statement_laws.proofs.BlockGood.{BracedAre, good-braced}

-- what each word begins

abbrev pub lead_word : StatementLead → List ℕ
lead_word Jumps = codes "goto"
lead_word Returns = codes "return"
lead_word Tests = codes "if"
lead_word Switches = codes "switch"
lead_word Counts = codes "for"
lead_word Repeats = codes "do"

pub lead-found : (word : List ℕ) (lead : StatementLead) → lookup word statement_words ≡ Some lead → word ≡ lead_word lead
lead-found word lead h =
    row-found (λ word lead. word ≡ lead_word lead) word lead statement_words (refl, (refl, (refl, (refl, (refl, (refl, tt)))))) h

module _ (scope : Scope) (before : LabelsOf) where
  abbrev Is : CStmt → Tokens → Tokens → Type 0
  Is one p q = StatementIs scope before one p q

  -- A statement behind its first word.
  abbrev pub Led : List ℕ → CStmt → Tokens → Tokens → Type 0
  Led word one p q = StatementIs scope before one (Word word ∷ p) q

  -- ## Without statements in it

  goto-can : (label : List ℕ) → can_meet before ≡ true → may_be_named before.stand label ≡ true → can_meet (both before (labels_of (stmt.Goto label))) ≡ true
  goto-can label can may =
      ap (λ z. can_meet (both before z)) (labels-goto label) ∙ can-name before (label ∷ []) can (and_from (may_be_named before.stand label) true may refl)

  good-jump : {nests : ℕ} → can_meet before ≡ true → Good nests (Led (codes "goto")) (jump before.stand) (jump before.stand)
  unfolding jump
  good-jump can =
      in_turn {First = OneName (may_be_named before.stand)} (good-name (may_be_named before.stand) (fresh_name before.stand) (fresh-may before.stand))
      (λ label. in_turn {First = OneSign (codes ";")} (good-sign (codes ";"))
      (λ u. good-found (stmt.Goto label) (λ q p1 end p0 named. record { reads = text.jump label refl named.is end; can = goto-can label can named.passed })))

  switch-is : (e : CExpr) (all : List CCase) (p q r s : Tokens) → can_meet before ≡ true → TestedBehind scope (codes "switch") e p q → ASign (codes "{") q r
      → CasesBehind before.stand [] all r s → Led (codes "switch") (stmt.Switch e all) p s
  switch-is e all p q r s can a b c = record {
    reads = text.switched c.once a b (subst (λ z. ReadsCases z r s) (sym c.whole) c.reads);
    can = ap (λ z. can_meet (both before z)) (labels-switch e all)
        ∙ can-name before (case_labels all) can (subst (λ z. list_all (may_be_named before.stand) (case_labels z) ≡ true) (sym c.whole) c.named);
  }

  module _ (good : InOrder scope) (can : can_meet before ≡ true) (nests count most : ℕ) (low : nests ≤ count) (high : count ≤ most) where
    good-switched : Good nests (Led (codes "switch")) (switched scope count before) (switched scope most before)
    unfolding switched
    good-switched =
        in_turn {First = TestedBehind scope (codes "switch")} (good-tested scope good nests count most low high (codes "switch"))
        (λ e. in_turn {First = OneSign (codes "{")} (good-sign (codes "{"))
        (λ u. in_turn {First = CasesBehind before.stand []} (good-cases before.stand nests count most [] low high refl)
        (λ all. good-found (stmt.Switch e all) (λ q p2 cases p1 opens p0 tested. switch-is e all p0 p1 p2 q can tested opens cases))))

  -- ## With statements in it

  -- An `if` up to the end of its first block.
  pub record IfHead (e : CExpr) (first : List CStmt) (p q : Tokens) : Type 0 where
    pub middle : Tokens
    pub opens : Tokens
    pub tested : ReadsTested scope (codes "if") e p middle
    pub brace : ASign (codes "{") middle opens
    pub reads : ReadsStmts scope first opens q

  abbrev IfRest : CExpr → List CStmt → CStmt → Tokens → Tokens → Type 0
  IfRest e first one p q = (front : Tokens) → IfHead e first front p → Is one front q

  if-is : (e : CExpr) (first : List CStmt) (p : Tokens) → can_meet (both before (labels_of_all first)) ≡ true → IfRest e first (stmt.If e first None) p p
  if-is e first p can = λ front h. record {
    reads = text.if_only h.tested h.brace h.reads;
    can = ap (λ z. can_meet (both before z)) (labels-if e first ∙ both-none (labels_of_all first)) ∙ can;
  }

  if-else-is : (e : CExpr) (first second : List CStmt) (p q : Tokens) → BracedAre scope (both before (labels_of_all first)) second p q
      → IfRest e first (stmt.If e first (Some second)) (Word (codes "else") ∷ p) q
  if-else-is e first second p q b = λ front h. record {
    reads = text.if_else h.tested h.brace h.reads refl b.opens b.reads;
    can = ap (λ z. can_meet (both before z)) (labels-if-else e first second)
        ∙ (ap can_meet (sym (labels.both-assoc before (labels_of_all first) (labels_of_all second))) ∙ b.can);
  }

  module _ (inner above : Inner) (nests count most : ℕ) (low : nests ≤ count) (high : count ≤ most)
      (good_inner : (labels : LabelsOf) → can_meet labels ≡ true → Good nests (StatementIs scope labels) (inner labels) (above labels)) where
    module _ (e : CExpr) (first : List CStmt) (can : can_meet (both before (labels_of_all first)) ≡ true) where
      abbrev so_far : LabelsOf
      so_far = both before (labels_of_all first)

      abbrev BehindElse : CStmt → Tokens → Tokens → Type 0
      BehindElse one p q = IfRest e first one (Word (codes "else") ∷ p) q

      good-else : Good nests BehindElse (λ more. else_by inner count so_far e first [] more true) (λ more. else_by above most so_far e first [] more true)
      unfolding else_by
      good-else =
          in_turn {First = BracedAre scope so_far} (good-braced scope inner above nests count most low high good_inner so_far can)
          (λ second. good-found (stmt.If e first (Some second)) (λ q p0 block. if-else-is e first second p0 q block))

      if-able : Filled (IfRest e first) []
      if-able = record { later = []; tree = stmt.If e first None; spelled = λ behind. if-is e first behind can }

      else-by : (word : List ℕ) (behind : Tokens) (does : Bool) → bytes_eq word (codes "else") ≡ does
          → Judged nests (IfRest e first) (otherwise above most so_far e first) (Word word ∷ behind) (else_by inner count so_far e first word behind does)
      unfolding otherwise else_by
      else-by word behind true h =
          judged-fewer (IfRest e first) (otherwise above most so_far e first) nests (suc nests) (Word word ∷ behind) (omega arith) (else_by inner count so_far e first [] behind true)
          (behind-token BehindElse (IfRest e first) (λ more. else_by above most so_far e first [] more true) (otherwise above most so_far e first) nests (Word word) behind
          (λ one p q spelled. subst (λ z. IfRest e first one (Word z ∷ p) q) (sym (equal-texts word (codes "else") h)) spelled)
          (λ p. ap (else_by above most so_far e first word p) h) (else_by inner count so_far e first [] behind true) (good-else.judged behind))
      else-by word behind false h =
          stays nests (stmt.If e first None) (Word word) behind (λ p. if-is e first p can) (λ p. ap (else_by above most so_far e first word p) h)

      otherwise-judged : (tokens : Tokens) → Judged nests (IfRest e first) (otherwise above most so_far e first) tokens (otherwise inner count so_far e first tokens)
      unfolding otherwise
      otherwise-judged [] = stays-end nests (stmt.If e first None) (λ p. if-is e first p can) refl
      otherwise-judged (Word word ∷ behind) = else-by word behind (bytes_eq word (codes "else")) refl
      otherwise-judged (token ∷ behind) = stays nests (stmt.If e first None) token behind (λ p. if-is e first p can) (λ p. refl)

      good-otherwise : Good nests (IfRest e first) (otherwise inner count so_far e first) (otherwise above most so_far e first)
      good-otherwise = record { able = if-able; judged = otherwise-judged }

    module _ (good : InOrder scope) (can : can_meet before ≡ true) where
      good-blocks : Good nests (BracedAre scope before) (reader.braced inner count before) (reader.braced above most before)
      good-blocks = good-braced scope inner above nests count most low high good_inner before can

      good-conditional : Good nests (Led (codes "if")) (conditional scope count inner before) (conditional scope most above before)
      unfolding conditional
      good-conditional =
          in_turn {First = TestedBehind scope (codes "if")} (good-tested scope good nests count most low high (codes "if"))
          (λ e. in_turn_of {First = BracedAre scope before} good-blocks
          (λ first p0 q0 is. good-as
          (λ one p q rest front block test_front tested.
          rest (Word (codes "if") ∷ test_front) (record { middle = front; opens = block.middle; tested = tested; brace = block.opens; reads = block.reads }))
          (good-otherwise e first is.can)))

      good-counted : Good nests (Led (codes "for")) (counted scope count inner before) (counted scope most above before)
      unfolding counted
      good-counted =
          in_turn {First = ForIs scope} (good-for-head scope good nests count most low high)
          (λ made. in_turn {First = BracedAre scope before} good-blocks
          (λ body. good-found (stmt.For made.target made.first made.test made.turn body) (λ q p1 block p0 turns. record {
            reads = text.repeated_for turns block.opens block.reads;
            can = ap (λ z. can_meet (both before z)) (labels-for made.target made.first made.test made.turn body) ∙ block.can;
          })))

      good-repeated : Good nests (Led (codes "do")) (repeated scope count inner before) (repeated scope most above before)
      unfolding repeated
      good-repeated =
          in_turn {First = BracedAre scope before} good-blocks
          (λ body. in_turn {First = OneWord (codes "while")} (good-word (codes "while"))
          (λ u. in_turn {First = TestedBehind scope (codes "while")} (good-tested scope good nests count most low high (codes "while"))
          (λ e. in_turn {First = OneSign (codes ";")} (good-sign (codes ";"))
          (λ v. good-found (stmt.DoWhile body e) (λ q p3 end p2 tested p1 word p0 block. record {
            reads = text.repeated_do refl block.opens block.reads (subst (λ z. ReadsTested scope (codes "while") e z p3) (sym word) tested) end;
            can = ap (λ z. can_meet (both before z)) (labels-do body e) ∙ block.can;
          })))))

      pub good-led : (lead : StatementLead) → Good nests (Led (lead_word lead)) (λ more. led scope count inner before more lead) (λ more. led scope most above before more lead)
      unfolding led
      good-led Jumps = good-jump can
      good-led Returns = good-returned scope good nests count most low high before can
      good-led Tests = good-conditional
      good-led Switches = good-switched good can nests count most low high
      good-led Counts = good-counted
      good-led Repeats = good-repeated
