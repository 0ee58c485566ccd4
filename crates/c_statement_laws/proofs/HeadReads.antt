-- The head of a `for` that is spelled is read.
use Rattle.std.proofs.Common.{◌≡◌, refl, sym, ap, ◌∙◌, ℕ, List, [], ◌∷◌, codes, Option, None, arith}
use Rattle.c_grammar_laws.specs.c_tree.declared.expression.CExpr.{CExpr}
use Rattle.c_grammar_laws.specs.c_tree.declared.expression.UnaryOp.TheVariants as prefix
use Rattle.c_grammar_laws.specs.c_tree.declared.statement.CNext.{CNext}
use Rattle.c_grammar_laws.specs.c_tree.declared.statement.CNext.TheVariants as next
use Rattle.c_grammar_laws.specs.c_tree.Tokens.{Word, Sign, Digits, Quoted, Including, Bad}
use Rattle.c_grammar_laws.specs.c_tree.CWords.{ASign}
use Rattle.c_grammar_laws.specs.c_tree.CExpressionText as text
use Rattle.c_grammar_laws.specs.c_tree.CExpressionText.{Scope, ReadsExpr}
use Rattle.c_grammar_laws.specs.c_tree.CStatementText as form
use Rattle.c_grammar_laws.specs.c_tree.CStatementText.{ReadsNext, ReadsFor}
use Rattle.c_grammar_laws.specs.c_readers.Readers.{Tokens, found, lookup, ◌>>=◌, a_sign}
use Rattle.c_grammar_laws.specs.c_readers.ExpressionReader.{expression}
use Rattle.c_grammar_laws.specs.grammar.Exactness.{Eventually}
use Rattle.c_grammar_laws.proofs.ExpressionComplete.{and_too}
use Rattle.c_statement_readers.specs.PartReader.{Step, steps, turn_by, turn, added, ForHead, for_rest, for_head}
use Rattle.c_statement_laws.specs.StatementLaws.{InOrder}
use Rattle.c_statement_laws.proofs.PartReads.{whence, expression-read}

-- ## What is done after each turn

-- no sign of a step stands first
abbrev no_step : Tokens → Option Step
no_step (Sign sign ∷ more) = lookup sign steps
no_step other = None

expression-steps : {scope : Scope} {place : ℕ} {e : CExpr} {p q : Tokens} → ReadsExpr scope place e p q → no_step p ≡ None
expression-steps (text.a_number place n h a) = ap no_step a
expression-steps (text.a_string place bytes a) = ap no_step a
expression-steps (text.a_name place name h a) = ap no_step a
expression-steps (text.parenthesised place a e b) = ap no_step a
expression-steps (text.prefixed place prefix.Minus h a e) = ap no_step a
expression-steps (text.prefixed place prefix.Not h a e) = ap no_step a
expression-steps (text.prefixed place prefix.Deref h a e) = ap no_step a
expression-steps (text.prefixed place prefix.Address h a e) = ap no_step a
expression-steps (text.casted place to h a t b e) = ap no_step a
expression-steps (text.between place o h e a f) = expression-steps e
expression-steps (text.chosen place h e a f b g) = expression-steps e
expression-steps (text.indexed place h e a i b) = expression-steps e
expression-steps (text.a_field place name h n e a b) = expression-steps e
expression-steps (text.size place a b c d) = ap no_step a
expression-steps (text.extreme_of place which a b e c f d) = ap no_step a
expression-steps (text.magnitude place a b e c) = ap no_step a

module _ (scope : Scope) (good : InOrder scope) where
  turn-other : (n : ℕ) (p : Tokens) → no_step p ≡ None → turn scope n p ≡ added scope n p
  unfolding turn turn_by
  turn-other n [] h = refl
  turn-other n (Sign sign ∷ more) h = ap (turn_by scope n sign more) h
  turn-other n (Word word ∷ more) h = refl
  turn-other n (Digits m ∷ more) h = refl
  turn-other n (Quoted bytes ∷ more) h = refl
  turn-other n (Including ∷ more) h = refl
  turn-other n (Bad ∷ more) h = refl

  added-read : (n : ℕ) (target e : CExpr) (p q s : Tokens) → expression scope n 7 p ≡ found target (Sign (codes "+=") ∷ q) → expression scope n 0 q ≡ found e s
      → added scope n p ≡ found (next.Add target e) s
  unfolding added a_sign
  added-read n target e p q s h g =
      ap (λ z. z >>= (λ x. λ t. a_sign (codes "+=") t >>= (λ u. λ v. expression scope n 0 v >>= (λ y. found (next.Add x y))))) h ∙ ap (λ z. z >>= (λ y. found (next.Add target y))) g

  up-read : (n : ℕ) (target : CExpr) (p q r : Tokens) → ASign (codes "++") p q → expression scope n 7 q ≡ found target r → turn scope n p ≡ found (next.Up target) r
  unfolding turn turn_by
  up-read n target p q r is h = ap (turn scope n) is ∙ ap (λ z. z >>= (λ x. found (next.Up x))) h

  down-read : (n : ℕ) (target : CExpr) (p q r : Tokens) → ASign (codes "--") p q → expression scope n 7 q ≡ found target r → turn scope n p ≡ found (next.Down target) r
  unfolding turn turn_by
  down-read n target p q r is h = ap (turn scope n) is ∙ ap (λ z. z >>= (λ x. found (next.Down x))) h

  pub turn-read : {made : CNext} {p q : Tokens} → ReadsNext scope made p q → (r : Tokens) → ASign (codes ")") q r
      → Eventually (λ n. turn scope n p ≡ found made (Sign (codes ")") ∷ r))
  turn-read (form.up {target = target} {p = p} {q = q} {r = s} sign reads) r closes =
      whence (λ n h. up-read n target p q (Sign (codes ")") ∷ r) sign h) (expression-read scope good 7 target (codes ")") q s r (omega arith) (omega arith) reads closes)
  turn-read (form.down {target = target} {p = p} {q = q} {r = s} sign reads) r closes =
      whence (λ n h. down-read n target p q (Sign (codes ")") ∷ r) sign h) (expression-read scope good 7 target (codes ")") q s r (omega arith) (omega arith) reads closes)
  turn-read (form.added {target = target} {e = e} {p = p} {q = q} {r = t} {s = s} first adds reads) r closes =
      whence (λ n both. turn-other n p (expression-steps first) ∙ added-read n target e p t (Sign (codes ")") ∷ r) both.0 both.1)
      (and_too (expression-read scope good 7 target (codes "+=") p q t (omega arith) (omega arith) first adds)
      (expression-read scope good 0 e (codes ")") t s r (omega arith) (omega arith) reads closes))

  -- ## The head

  abbrev head_of : CExpr → CExpr → CExpr → CNext → ForHead
  head_of target first test step = record { target = target; first = first; test = test; turn = step }

  rest-read : (n : ℕ) (target first test : CExpr) (step : CNext) (p q s : Tokens) → expression scope n 0 p ≡ found test (Sign (codes ";") ∷ q)
      → turn scope n q ≡ found step (Sign (codes ")") ∷ s) → for_rest scope n target first p ≡ found (head_of target first test step) s
  unfolding for_rest a_sign
  rest-read n target first test step p q s h g =
      ap
      (λ z. z >>= (λ x. λ t. a_sign (codes ";") t >>= (λ u. λ v. turn scope n v >>= (λ y. λ w. a_sign (codes ")") w >>= (λ b. found (head_of target first x y))))))
      h
      ∙ ap (λ z. z >>= (λ y. λ w. a_sign (codes ")") w >>= (λ b. found (head_of target first test y)))) g

  head-by : (n : ℕ) (target first : CExpr) (made : ForHead) (p q r s : Tokens) → expression scope n 7 p ≡ found target (Sign (codes "=") ∷ q)
      → expression scope n 0 q ≡ found first (Sign (codes ";") ∷ r) → for_rest scope n target first r ≡ found made s
      → for_head scope n (Sign (codes "(") ∷ p) ≡ found made s
  unfolding for_head a_sign
  head-by n target first made p q r s h g k =
      ap
      (λ z. z >>= (λ x. λ t. a_sign (codes "=") t >>= (λ v. λ w. expression scope n 0 w >>= (λ y. λ b. a_sign (codes ";") b >>= (λ c. for_rest scope n x y)))))
      h
      ∙ (ap (λ z. z >>= (λ y. λ b. a_sign (codes ";") b >>= (λ c. for_rest scope n target y))) g ∙ k)

  word-rest : (word : List ℕ) (m q : Tokens) → Word word ∷ m ≡ Word word ∷ q → m ≡ q
  word-rest word m q h = cc

  pub for-read : {target first test : CExpr} {step : CNext} {p q : Tokens} → ReadsFor scope target first test step p q → (m : Tokens) → p ≡ Word (codes "for") ∷ m
      → Eventually (λ n. for_head scope n m ≡ found (head_of target first test step) q)
  for-read (form.for_head {target = target} {first = first} {test = test} {turn = step} {p = p} {q = q} {r = r} {s = s} {t = t} {u = u} {v = v} {w = w} {x = x} {y = y} {z = b} a opens targets equals firsts ends tests stops turns closes)
      m is =
      whence
      (λ n k. ap (for_head scope n) (word-rest (codes "for") m q (sym is ∙ a) ∙ opens)
      ∙ head-by n target first (head_of target first test step) r t v b k.0 k.1.0 (rest-read n target first test step v x b k.1.1.0 k.1.1.1))
      (and_too (expression-read scope good 7 target (codes "=") r s t (omega arith) (omega arith) targets equals)
      (and_too (expression-read scope good 0 first (codes ";") t u v (omega arith) (omega arith) firsts ends)
      (and_too (expression-read scope good 0 test (codes ";") v w x (omega arith) (omega arith) tests stops) (turn-read turns b closes))))
