-- Statements that are spelled are read.
use Rattle.std.proofs.Common.{◌≡◌, refl, sym, ap, ◌∙◌, subst, ℕ, zero, suc, ◌+◌, ◌≤◌, Bool, true, false, List, [], ◌∷◌, ◌++◌, append_assoc, append-nil, codes, Some, None, arith}
use Rattle.c_grammar_laws.specs.c_tree.declared.expression.CExpr.{CExpr}
use Rattle.c_grammar_laws.specs.c_tree.declared.statement.CNext.{CNext}
use Rattle.c_grammar_laws.specs.c_tree.declared.statement.CStmt.{CStmt}
use Rattle.c_grammar_laws.specs.c_tree.declared.statement.CStmt.TheVariants as stmt
use Rattle.c_grammar_laws.specs.c_tree.Tokens.{Sign}
use Rattle.c_grammar_laws.specs.c_tree.CWords.{ASign, AWord}
use Rattle.c_grammar_laws.specs.c_tree.CLabels.{LabelsOf, no_label, both, standing, labels_of, labels_of_all}
use Rattle.c_grammar_laws.specs.c_tree.CExpressionText.{Scope, ReadsExpr}
use Rattle.c_grammar_laws.specs.c_tree.CStatementText as form
use Rattle.c_grammar_laws.specs.c_tree.CStatementText.{ReadsStmt, ReadsStmts, ReadsTested, ReadsFor}
use Rattle.c_grammar_laws.specs.c_readers.Readers.{Tokens, found}
use Rattle.c_grammar_laws.specs.grammar.Exactness.{Eventually}
use Rattle.c_grammar_laws.proofs.CallComplete.{Soon}
use Rattle.c_statement_readers.specs.LabelTests.{may_be_named, can_meet, with_label}
use Rattle.c_statement_readers.specs.PartReader.{Right, Value, Called, set_to, simple, return_of, tested}
use Rattle.c_statement_readers.specs.StatementReader.{closes_anywhere, statements, block, a_statement, statement}
use Rattle.c_statement_laws.specs.StatementLaws.{InOrder, begins_else}
use Rattle.c_statement_laws.proofs.LabelLaws.{both-assoc, both-none, can-front, names-can, stands-may, case_labels, labels-block, labels-label, labels-if, labels-if-else, labels-for, labels-do, labels-goto, labels-switch, both-true}
use Rattle.c_statement_laws.proofs.NewNumbers.{none}
use Rattle.c_statement_laws.proofs.FirstTokens.{leads_out, no_end, labels_here, expression-leads, call-leads, expression-no-label, call-no-label, statement-goes, statements-no-else}
use Rattle.c_statement_laws.proofs.PartReads.{set-read, called-read, returned-read, return-alone, tested-read}
use Rattle.c_statement_laws.proofs.HeadReads.{for-read}
use Rattle.c_statement_laws.proofs.CaseReads.{cases-read}
use Rattle.c_statement_laws.proofs.SimpleGood.{RightIs}
use Rattle.c_statement_laws.proofs.StatementSteps.{simple-step, empty-step, block-step, label-step, goto-step, return-step, if-step, if-else-step, switch-step, for-step, do-step, closed-step, next-step}

-- what holds from some number of nests, of what stands side by side, and of statements on
pub record Late (P : ℕ → ℕ → ℕ → Type 0) : Type 0 where
  pub first : ℕ
  pub holds : (nests count many : ℕ) → first ≤ nests → first ≤ count → first ≤ many → P nests count many

module _ (scope : Scope) where
  abbrev pub OneRead : LabelsOf → CStmt → Tokens → Tokens → Type 0
  OneRead before one p q = Soon (λ nests count. statement scope count nests before p ≡ found one q)

  abbrev pub AllRead : (LabelsOf → Bool) → LabelsOf → List CStmt → List CStmt → Tokens → Tokens → Type 0
  AllRead closes before items all p q = Late (λ nests count many. statements (statement scope count nests) closes many before items p ≡ found (items ++ all) q)

  -- one nest more
  within : (before : LabelsOf) (one : CStmt) (p q : Tokens) → Soon (λ nests count. a_statement scope count (statement scope count nests) before p ≡ found one q) → OneRead before one p q
  unfolding statement
  within before one p q s = record { first = suc s.first; holds = by }
    where
      by : (nests count : ℕ) → suc s.first ≤ nests → suc s.first ≤ count → statement scope count nests before p ≡ found one q
      by zero count h g = absurd (let k : suc s.first ≤ 0 = h in omega (arith, k))
      by (suc nests) count h g = s.holds nests count (omega (arith, h)) (omega (arith, g))

  -- what is read by what stands side by side alone
  alone : {P : ℕ → Type 0} {Q : ℕ → ℕ → Type 0} → Eventually P → ((nests count : ℕ) → P count → Q nests count) → Soon Q
  alone e step = record { first = e.first; holds = λ nests count h g. step nests count (e.holds count g) }

  -- a block is read
  block-of : (before : LabelsOf) (all : List CStmt) (p q : Tokens) (nests count : ℕ) (r : AllRead closes_anywhere before [] all p q) → r.first ≤ nests → r.first ≤ count
      → block (statement scope count nests) count before p ≡ found all q
  unfolding block
  block-of before all p q nests count r h g = r.holds nests count count h g g

  with-block : {P : ℕ → Type 0} {Q : ℕ → ℕ → Type 0} (before : LabelsOf) (all : List CStmt) (p q : Tokens) → Eventually P → AllRead closes_anywhere before [] all p q
      → ((nests count : ℕ) → P count → block (statement scope count nests) count before p ≡ found all q → Q nests count) → Soon Q
  with-block before all p q e r step = record {
    first = e.first + r.first;
    holds = λ nests count h g. step nests count (e.holds count (omega (arith, g))) (block-of before all p q nests count r (omega (arith, h)) (omega (arith, g)));
  }

  simple-read : InOrder scope → (before : LabelsOf) (one : CStmt) (p q : Tokens) → leads_out p ≡ true → labels_here scope before p ≡ false
      → Eventually (λ count. simple scope count p ≡ found one q) → OneRead before one p q
  simple-read good before one p q leads other e =
      within before one p q (alone e (λ nests count h. simple-step scope count (statement scope count nests) before p leads other ∙ h))

  set-statement : InOrder scope → (before : LabelsOf) (target : CExpr) (r : Right) (p q s t u : Tokens) → ReadsExpr scope 7 target p q → ASign (codes "=") q s
      → RightIs scope r s t → ASign (codes ";") t u → OneRead before (set_to target r) p u
  set-statement good before target r p q s t u first equals reads ends =
      simple-read good before (set_to target r) p u (expression-leads good.of_names first)
      (expression-no-label scope 7 target before p (Sign (codes "=") ∷ s) good (subst (λ z. ReadsExpr scope 7 target p z) equals first) (omega arith) (omega arith) refl)
      (set-read scope good target r p q s t u first equals reads ends)

  return-statement : InOrder scope → (before : LabelsOf) (r : Right) (p q s t : Tokens) → AWord (codes "return") p q → RightIs scope r q s → ASign (codes ";") s t
      → OneRead before (return_of r) p t
  return-statement good before r p q s t is reads ends =
      within before (return_of r) p t (alone (returned-read scope good r q s t reads ends) (λ nests count h. return-step scope count (statement scope count nests) before (return_of r) p q t is h))

  -- ## What is tested

  pub record Test (word : List ℕ) (e : CExpr) (p q : Tokens) : Type 0 where
    pub behind : Tokens
    pub is : AWord word p behind
    pub reads : Eventually (λ count. tested scope count behind ≡ found e q)

  test-of : {word : List ℕ} {e : CExpr} {p q : Tokens} → InOrder scope → ReadsTested scope word e p q → Test word e p q
  test-of good (form.tested word {q = q} a b c d) = record { behind = q; is = a; reads = tested-read scope good (form.tested word a b c d) q a }

  -- the word `for`
  record ForWord (p : Tokens) : Type 0 where
    pub behind : Tokens
    pub is : AWord (codes "for") p behind

  for-word : {target first test : CExpr} {turn : CNext} {p q : Tokens} → ReadsFor scope target first test turn p q → ForWord p
  for-word (form.for_head {q = q} a b c d e f g h i j) = record { behind = q; is = a }

  -- ## The labels of what is within

  can-inner : (before : LabelsOf) {one other : LabelsOf} → one ≡ other → can_meet (both before one) ≡ true → can_meet (both before other) ≡ true
  can-inner before h c = ap (λ z. can_meet (both before z)) (sym h) ∙ c

  can-first : (before one other : LabelsOf) → can_meet (both before (both one other)) ≡ true → can_meet (both before one) ≡ true
  can-first before one other c = can-front (both before one) other (ap can_meet (both-assoc before one other) ∙ c)

  can-second : (before one other : LabelsOf) → can_meet (both before (both one other)) ≡ true → can_meet (both (both before one) other) ≡ true
  can-second before one other c = ap can_meet (both-assoc before one other) ∙ c

  -- ## Statements up to a brace

  closed-read : (closes : LabelsOf → Bool) (before : LabelsOf) (items : List CStmt) (p q : Tokens) → ASign (codes "}") p q → closes before ≡ true
      → AllRead closes before items [] p q
  closed-read closes before items p q is ends = record { first = 1; holds = by }
    where
      by : (nests count many : ℕ) → 1 ≤ nests → 1 ≤ count → 1 ≤ many → statements (statement scope count nests) closes many before items p ≡ found (items ++ []) q
      by nests count zero h g k = absurd (let l : 1 ≤ 0 = k in omega (arith, l))
      by nests count (suc many) h g k =
          closed-step (statement scope count nests) closes many before items p q is ends ∙ ap (λ z. found z q) (sym (append-nil items))

  more-read : (closes : LabelsOf → Bool) (before : LabelsOf) (items : List CStmt) (one : CStmt) (later : List CStmt) (p q r : Tokens) → no_end p ≡ true
      → OneRead before one p q → AllRead closes (both before (labels_of one)) (items ++ (one ∷ [])) later q r → AllRead closes before items (one ∷ later) p r
  more-read closes before items one later p q r goes first rest = record { first = suc (first.first + rest.first); holds = by }
    where
      by : (nests count many : ℕ) → suc (first.first + rest.first) ≤ nests → suc (first.first + rest.first) ≤ count → suc (first.first + rest.first) ≤ many
          → statements (statement scope count nests) closes many before items p ≡ found (items ++ (one ∷ later)) r
      by nests count zero h g k = absurd (let l : suc (first.first + rest.first) ≤ 0 = k in omega (arith, l))
      by nests count (suc many) h g k =
          next-step (statement scope count nests) closes many before items one p q goes (first.holds nests count (omega (arith, h)) (omega (arith, g)))
          ∙ (rest.holds nests count many (omega (arith, h)) (omega (arith, g)) (omega (arith, k)) ∙ ap (λ z. found z r) (append_assoc items (one ∷ []) later))

  -- ## Statements

  mutual
    pub statement-read : {one : CStmt} {p q : Tokens} → InOrder scope → ReadsStmt scope one p q → (before : LabelsOf) → can_meet (both before (labels_of one)) ≡ true
        → begins_else q ≡ false → OneRead before one p q
    statement-read good (form.assigned {target = target} {e = e} {p = p} {q = q} {r = r} {s = s} {t = t} a b c d) before can ends =
        set-statement good before target (Value e) p q r s t a b c d
    statement-read good (form.assigned_call {target = target} {call = one} {p = p} {q = q} {r = r} {s = s} {t = t} a b c d) before can ends =
        set-statement good before target (Called one) p q r s t a b c d
    statement-read good (form.called {call = one} {p = p} {q = q} {r = r} a b) before can ends =
        simple-read good before (stmt.Call one) p r (call-leads good.of_names a) (call-no-label scope before good.of_names a) (called-read scope good one p q r a b)
    statement-read good (form.empty {p = p} {q = q} a) before can ends =
        within before stmt.Empty p q (record { first = 0; holds = λ nests count h g. empty-step scope count (statement scope count nests) before p q a })
    statement-read good (form.a_block {inner = inner} {p = p} {q = q} {r = r} a b) before can ends =
        let within_it = statements-read good b before [] closes_anywhere (can-inner before (labels-block inner) can) refl in
        within before (stmt.Block inner) p r
        (with-block {P = λ n. Unit {0}} before inner q r (record { first = 0; holds = λ n h. tt }) within_it
        (λ nests count u h. block-step scope count (statement scope count nests) before inner p q r a h))
    statement-read good (form.labelled label {inner = inner} {p = p} {q = q} {r = r} {s = s} named a b c) before can ends =
        let c2 = can-second before (standing label no_label) (labels_of inner) (can-inner before (labels-label label inner) can) in
        let after = statement-read good c (with_label before label) c2 ends in
        within before (stmt.Label label inner) p s
        (record {
          first = after.first;
          holds = λ nests count h g.
              label-step scope count (statement scope count nests) before label inner p q r s named
              (stands-may before label named (can-front (with_label before label) (labels_of inner) c2)) a b (after.holds nests count h g);
        })
    statement-read good (form.jump label {p = p} {q = q} {r = r} {s = s} a b c) before can ends =
        let may = both-true (may_be_named before.stand label) true (names-can before (label ∷ []) (can-inner before (labels-goto label) can)) in
        within before (stmt.Goto label) p s (record { first = 0; holds = λ nests count h g. goto-step scope count (statement scope count nests) before label p q r s may.0 a b c })
    statement-read good (form.returned {p = p} {q = q} {r = r} a b) before can ends =
        within before (stmt.Return None) p r
        (record {
          first = 0;
          holds = λ nests count h g. return-step scope count (statement scope count nests) before (stmt.Return None) p q r a (return-alone scope good count q r b);
        })
    statement-read good (form.returned_value {e = e} {p = p} {q = q} {r = r} {s = s} a b c) before can ends = return-statement good before (Value e) p q r s a b c
    statement-read good (form.returned_call {call = one} {p = p} {q = q} {r = r} {s = s} a b c) before can ends = return-statement good before (Called one) p q r s a b c
    statement-read good (form.if_only {e = e} {first = first} {p = p} {q = q} {r = r} {s = s} a b c) before can ends =
        let t = test-of good a in
        let inside = statements-read good c before [] closes_anywhere
        (can-first before (labels_of_all first) no_label (can-inner before (labels-if e first) can)) refl in
        within before (stmt.If e first None) p s
        (with-block before first r s t.reads inside (λ nests count h g. if-step scope count (statement scope count nests) before e first p t.behind q r s t.is h b g ends))
    statement-read good (form.if_else {e = e} {first = first} {second = second} {p = p} {q = q} {r = r} {s = s} {t = t} {u = u} {v = v} a b c d f g) before can ends =
        let test = test-of good a in
        let both_can = can-inner before (labels-if-else e first second) can in
        let one = statements-read good c before [] closes_anywhere (can-first before (labels_of_all first) (labels_of_all second) both_can) refl in
        let other = statements-read good g (both before (labels_of_all first)) [] closes_anywhere (can-second before (labels_of_all first) (labels_of_all second) both_can) refl in
        within before (stmt.If e first (Some second)) p v
        (record {
          first = test.reads.first + (one.first + other.first);
          holds = λ nests count h k.
              if-else-step scope count (statement scope count nests) before e first second p test.behind q r s t u v test.is (test.reads.holds count (omega (arith, k))) b
              (block-of before first r s nests count one (omega (arith, h)) (omega (arith, k))) d f (block-of (both before (labels_of_all first)) second u v nests count other (omega (arith, h)) (omega (arith, k)));
        })
    statement-read good (form.switched {e = e} {cases = all} {p = p} {q = q} {r = r} {s = s} once a b c) before can ends =
        let t = test-of good a in
        let read = cases-read before.stand all r s c [] once (names-can before (case_labels all) (can-inner before (labels-switch e all) can)) none in
        within before (stmt.Switch e all) p s
        (record {
          first = t.reads.first + read.first;
          holds = λ nests count h g.
              switch-step scope count (statement scope count nests) before e all p t.behind q r s t.is (t.reads.holds count (omega (arith, g))) b
              (read.holds count (omega (arith, g)));
        })
    statement-read good (form.repeated_for {target = target} {first = first} {test = test} {turn = turn} {inner = inner} {p = p} {q = q} {r = r} {s = s} a b c) before can ends =
        let inside = statements-read good c before [] closes_anywhere (can-inner before (labels-for target first test turn inner) can) refl in
        let w = for-word a in
        within before (stmt.For target first test turn inner) p s
        (with-block before inner r s (for-read scope good a w.behind w.is) inside
        (λ nests count h g.
        for-step scope count (statement scope count nests) before (record { target = target; first = first; test = test; turn = turn }) inner p w.behind q r s w.is h b g))
    statement-read good (form.repeated_do {inner = inner} {e = e} {p = p} {q = q} {r = r} {s = s} {t = t} {u = u} a b c d f) before can ends =
        let inside = statements-read good c before [] closes_anywhere (can-inner before (labels-do inner e) can) refl in
        let test = test-of good d in
        within before (stmt.DoWhile inner e) p u
        (with-block before inner r s test.reads inside (λ nests count h g. do-step scope count (statement scope count nests) before inner e p q r s test.behind t u a b g test.is h f))

    pub statements-read : {all : List CStmt} {p q : Tokens} → InOrder scope → ReadsStmts scope all p q → (before : LabelsOf) (items : List CStmt) (closes : LabelsOf → Bool)
        → can_meet (both before (labels_of_all all)) ≡ true → closes (both before (labels_of_all all)) ≡ true → AllRead closes before items all p q
    statements-read good (form.closed {p = p} {q = q} a) before items closes can ends =
        closed-read closes before items p q a (ap closes (sym (both-none before)) ∙ ends)
    statements-read good (form.one_more {first = first} {later = later} {p = p} {q = q} {r = r} a b) before items closes can ends =
        more-read closes before items first later p q r (statement-goes good.of_names a)
        (statement-read good a before (can-first before (labels_of first) (labels_of_all later) can) (statements-no-else good.of_names b))
        (statements-read good b (both before (labels_of first)) (items ++ (first ∷ [])) closes (can-second before (labels_of first) (labels_of_all later) can)
        (ap closes (both-assoc before (labels_of first) (labels_of_all later)) ∙ ends))
