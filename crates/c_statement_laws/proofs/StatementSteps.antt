-- One step of the reader of statements for each form.
use Rattle.std.proofs.Common.{◌≡◌, refl, sym, ap, ◌∙◌, ℕ, suc, Bool, true, false, not, ◌&&◌, List, [], ◌∷◌, ◌++◌, codes, bytes_eq, if◌then◌else◌, Some, None}
use Rattle.c_grammar_laws.specs.c_tree.declared.expression.CExpr.{CExpr}
use Rattle.c_grammar_laws.specs.c_tree.declared.statement.CCase.{CCase}
use Rattle.c_grammar_laws.specs.c_tree.declared.statement.CStmt.{CStmt}
use Rattle.c_grammar_laws.specs.c_tree.declared.statement.CStmt.TheVariants as stmt
use Rattle.c_grammar_laws.specs.c_tree.Tokens.{Word, Sign, Digits, Quoted, Including, Bad}
use Rattle.c_grammar_laws.specs.c_tree.CWords.{is_among, is_name, AWord, ASign}
use Rattle.c_grammar_laws.specs.c_tree.CLabels.{LabelsOf, both, labels_of, labels_of_all}
use Rattle.c_grammar_laws.specs.c_tree.CExpressionText.{Scope}
use Rattle.c_grammar_laws.specs.c_readers.Readers.{Tokens, Reader, found, refused, ◌>>=◌, a_sign, a_word}
use Rattle.c_grammar_laws.proofs.ExpressionSteps.{not-found}
use Rattle.c_grammar_laws.proofs.TokenReads.{sign-read, word-read, name-read}
use Rattle.c_statement_readers.specs.LabelTests.{may_be_named, may_stand, with_label}
use Rattle.c_statement_readers.specs.PartReader.{simple, returned, tested, ForHead, for_head}
use Rattle.c_statement_readers.specs.CaseReader.{cases}
use Rattle.c_statement_readers.specs.StatementReader.{Inner, closing, first_and_more, by_brace, statements, block, braced, jump, else_by, otherwise, conditional, switched, counted, repeated, statement_words, led, labelled, by_label, by_word, statement_signs, by_sign, a_statement}
use Rattle.c_statement_laws.specs.StatementLaws.{begins_else}
use Rattle.c_statement_laws.proofs.FirstTokens.{starters, marks, leads_out, no_end, name-starts, labels_here}

not-false : (a : Bool) → not a ≡ true → a ≡ false
not-false true h = sym h
not-false false h = refl

module _ (scope : Scope) (count : ℕ) (inner : Inner) (before : LabelsOf) where
  abbrev Gives : Tokens → CStmt → Tokens → Type 0
  Gives p made q = a_statement scope count inner before p ≡ found made q

  -- ## What no word and no sign begins

  pub simple-step : (p : Tokens) → leads_out p ≡ true → labels_here scope before p ≡ false → a_statement scope count inner before p ≡ simple scope count p
  unfolding a_statement by_word by_label by_sign
  simple-step [] h k = refl
  simple-step (Word word ∷ more) h k =
      ap (by_word scope count inner before word more) (not-found word starters statement_words refl (not-false (is_among word starters) h))
      ∙ ap (by_label scope count inner before word more) k
  simple-step (Sign sign ∷ more) h k =
      ap (by_sign scope count inner before sign more) (not-found sign marks statement_signs refl (not-false (is_among sign marks) h))
  simple-step (Digits n ∷ more) h k = refl
  simple-step (Quoted bytes ∷ more) h k = refl
  simple-step (Including ∷ more) h k = refl
  simple-step (Bad ∷ more) h k = refl

  pub empty-step : (p q : Tokens) → ASign (codes ";") p q → Gives p stmt.Empty q
  unfolding a_statement by_sign
  empty-step p q is = ap (a_statement scope count inner before) is

  pub block-step : (all : List CStmt) (p q r : Tokens) → ASign (codes "{") p q → block inner count before q ≡ found all r → Gives p (stmt.Block all) r
  unfolding a_statement by_sign
  block-step all p q r is h = ap (a_statement scope count inner before) is ∙ ap (λ z. z >>= (λ body. found (stmt.Block body))) h

  pub label-step : (label : List ℕ) (one : CStmt) (p q r s : Tokens) → is_name label ≡ true → may_stand before label ≡ true → AWord label p q → ASign (codes ":") q r
      → inner (with_label before label) r ≡ found one s → Gives p (stmt.Label label one) s
  unfolding a_statement by_word by_label labelled a_sign
  label-step label one p q r s named may is colon h =
      ap (a_statement scope count inner before) (is ∙ ap (λ z. Word label ∷ z) colon)
      ∙ (ap (by_word scope count inner before label (Sign (codes ":") ∷ r)) (not-found label starters statement_words refl (name-starts label named))
      ∙ (ap (λ z. by_label scope count inner before label (Sign (codes ":") ∷ r) (z && true)) may ∙ ap (λ z. z >>= (λ x. found (stmt.Label label x))) h))

  -- ## What a word begins

  pub goto-step : (label : List ℕ) (p q r s : Tokens) → may_be_named before.stand label ≡ true → AWord (codes "goto") p q → AWord label q r → ASign (codes ";") r s
      → Gives p (stmt.Goto label) s
  unfolding a_statement by_word led jump
  goto-step label p q r s may is name ends =
      ap (a_statement scope count inner before) is ∙ rw (name-read (may_be_named before.stand) label q r may name) (rw (sign-read (codes ";") r s ends) refl)

  pub return-step : (made : CStmt) (p q s : Tokens) → AWord (codes "return") p q → returned scope count q ≡ found made s → Gives p made s
  unfolding a_statement by_word led
  return-step made p q s is h = ap (a_statement scope count inner before) is ∙ h

  pub braced-read : (labels : LabelsOf) (all : List CStmt) (p q r : Tokens) → ASign (codes "{") p q → block inner count labels q ≡ found all r → braced inner count labels p ≡ found all r
  unfolding braced a_sign
  braced-read labels all p q r is h = ap (braced inner count labels) is ∙ h

  otherwise-none : (labels : LabelsOf) (e : CExpr) (first : List CStmt) (p : Tokens) → begins_else p ≡ false → otherwise inner count labels e first p ≡ found (stmt.If e first None) p
  unfolding otherwise else_by
  otherwise-none labels e first [] h = refl
  otherwise-none labels e first (Word word ∷ more) h = ap (else_by inner count labels e first word more) h
  otherwise-none labels e first (Sign sign ∷ more) h = refl
  otherwise-none labels e first (Digits n ∷ more) h = refl
  otherwise-none labels e first (Quoted bytes ∷ more) h = refl
  otherwise-none labels e first (Including ∷ more) h = refl
  otherwise-none labels e first (Bad ∷ more) h = refl

  otherwise-some : (labels : LabelsOf) (e : CExpr) (first second : List CStmt) (p q r : Tokens) → AWord (codes "else") p q → braced inner count labels q ≡ found second r
      → otherwise inner count labels e first p ≡ found (stmt.If e first (Some second)) r
  unfolding otherwise else_by
  otherwise-some labels e first second p q r is h =
      ap (otherwise inner count labels e first) is ∙ ap (λ z. z >>= (λ x. found (stmt.If e first (Some x)))) h

  if-by : (e : CExpr) (first : List CStmt) (p q r s : Tokens) (made : CStmt) (t : Tokens) → AWord (codes "if") p q → tested scope count q ≡ found e r
      → braced inner count before r ≡ found first s → otherwise inner count (both before (labels_of_all first)) e first s ≡ found made t → Gives p made t
  unfolding a_statement by_word led conditional
  if-by e first p q r s made t is h g k =
      ap (a_statement scope count inner before) is
      ∙ (ap (λ z. z >>= (λ x. λ y. braced inner count before y >>= (λ w. otherwise inner count (both before (labels_of_all w)) x w))) h
      ∙ (ap (λ z. z >>= (λ w. otherwise inner count (both before (labels_of_all w)) e w)) g ∙ k))

  pub if-step : (e : CExpr) (first : List CStmt) (p q r s t : Tokens) → AWord (codes "if") p q → tested scope count q ≡ found e r → ASign (codes "{") r s
      → block inner count before s ≡ found first t → begins_else t ≡ false → Gives p (stmt.If e first None) t
  if-step e first p q r s t is h opens g other =
      if-by e first p q r t (stmt.If e first None) t is h (braced-read before first r s t opens g) (otherwise-none (both before (labels_of_all first)) e first t other)

  pub if-else-step : (e : CExpr) (first second : List CStmt) (p q r s t u v w : Tokens) → AWord (codes "if") p q → tested scope count q ≡ found e r
      → ASign (codes "{") r s → block inner count before s ≡ found first t → AWord (codes "else") t u → ASign (codes "{") u v
      → block inner count (both before (labels_of_all first)) v ≡ found second w → Gives p (stmt.If e first (Some second)) w
  if-else-step e first second p q r s t u v w is h opens g other again k =
      if-by e first p q r t (stmt.If e first (Some second)) w is h (braced-read before first r s t opens g)
      (otherwise-some (both before (labels_of_all first)) e first second t u w other (braced-read (both before (labels_of_all first)) second u v w again k))

  pub switch-step : (e : CExpr) (all : List CCase) (p q r s t : Tokens) → AWord (codes "switch") p q → tested scope count q ≡ found e r → ASign (codes "{") r s
      → cases count before.stand [] s ≡ found all t → Gives p (stmt.Switch e all) t
  unfolding a_statement by_word led switched
  switch-step e all p q r s t is h opens g =
      ap (a_statement scope count inner before) is
      ∙ (ap (λ z. z >>= (λ x. λ y. a_sign (codes "{") y >>= (λ u. λ w. cases count before.stand [] w >>= (λ v. found (stmt.Switch x v))))) h
      ∙ rw (sign-read (codes "{") r s opens) (ap (λ z. z >>= (λ v. found (stmt.Switch e v))) g))

  pub for-step : (made : ForHead) (all : List CStmt) (p q r s t : Tokens) → AWord (codes "for") p q → for_head scope count q ≡ found made r → ASign (codes "{") r s
      → block inner count before s ≡ found all t → Gives p (stmt.For made.target made.first made.test made.turn all) t
  unfolding a_statement by_word led counted
  for-step made all p q r s t is h opens g =
      ap (a_statement scope count inner before) is
      ∙ (ap (λ z. z >>= (λ x. λ y. braced inner count before y >>= (λ w. found (stmt.For x.target x.first x.test x.turn w)))) h
      ∙ ap (λ z. z >>= (λ w. found (stmt.For made.target made.first made.test made.turn w))) (braced-read before all r s t opens g))

  pub do-step : (all : List CStmt) (e : CExpr) (p q r s t u v : Tokens) → AWord (codes "do") p q → ASign (codes "{") q r → block inner count before r ≡ found all s
      → AWord (codes "while") s t → tested scope count t ≡ found e u → ASign (codes ";") u v → Gives p (stmt.DoWhile all e) v
  unfolding a_statement by_word led repeated
  do-step all e p q r s t u v is opens h word g ends =
      ap (a_statement scope count inner before) is
      ∙ (ap (λ z. z >>= (λ x. λ y. a_word (codes "while") y >>= (λ a. λ b. tested scope count b >>= (λ c. λ d. a_sign (codes ";") d >>= (λ f. found (stmt.DoWhile x c))))))
      (braced-read before all q r s opens h)
      ∙ rw (word-read (codes "while") s t word) (rw (g) (rw (sign-read (codes ";") u v ends) refl)))

-- ## Statements up to a brace

module _ (inner : Inner) (closes : LabelsOf → Bool) (count : ℕ) (before : LabelsOf) (items : List CStmt) where
  pub closed-step : (p q : Tokens) → ASign (codes "}") p q → closes before ≡ true → statements inner closes (suc count) before items p ≡ found items q
  unfolding statements by_brace closing
  closed-step p q is ends =
      ap (statements inner closes (suc count) before items) is ∙ ap (λ (z : Bool). if z then found items q else refused (Sign (codes "}") ∷ q)) ends

  abbrev further : CStmt → Reader (List CStmt)
  further one = statements inner closes count (both before (labels_of one)) (items ++ (one ∷ []))

  as-first : (p : Tokens) → no_end p ≡ true → statements inner closes (suc count) before items p ≡ (inner before p >>= further)
  unfolding statements by_brace first_and_more
  as-first [] h = refl
  as-first (Sign sign ∷ more) h = ap (by_brace inner further closes before items sign more) (not-false (bytes_eq sign (codes "}")) h)
  as-first (Word word ∷ more) h = refl
  as-first (Digits n ∷ more) h = refl
  as-first (Quoted bytes ∷ more) h = refl
  as-first (Including ∷ more) h = refl
  as-first (Bad ∷ more) h = refl

  pub next-step : (one : CStmt) (p q : Tokens) → no_end p ≡ true → inner before p ≡ found one q
      → statements inner closes (suc count) before items p ≡ statements inner closes count (both before (labels_of one)) (items ++ (one ∷ [])) q
  next-step one p q h g = as-first p h ∙ ap (λ z. z >>= further) g
