-- Calls, assignments, returns, and the heads of statements that are spelled are read.
use Rattle.std.proofs.Common.{◌≡◌, refl, sym, ap, ◌∙◌, subst, ℕ, ◌≤◌, Bool, true, false, not, ◌||◌, List, [], ◌∷◌, codes, bytes_eq, None, arith}
use Rattle.c_grammar_laws.specs.c_tree.declared.expression.CExpr.{CExpr}
use Rattle.c_grammar_laws.specs.c_tree.declared.expression.CCall.{CCall}
use Rattle.c_grammar_laws.specs.c_tree.declared.statement.CStmt.TheVariants as stmt
use Rattle.c_grammar_laws.specs.c_tree.Tokens.{Word, Sign, Digits, Quoted, Including, Bad}
use Rattle.c_grammar_laws.specs.c_tree.CWords.{ASign, is_among}
use Rattle.c_grammar_laws.specs.c_tree.CExpressionText.{Scope, ReadsExpr, ReadsCall}
use Rattle.c_grammar_laws.specs.c_tree.CStatementText as form
use Rattle.c_grammar_laws.specs.c_tree.CStatementText.{ReadsTested, ReadsNext, ReadsFor}
use Rattle.c_grammar_laws.specs.c_readers.Readers.{Tokens, found, ◌>>=◌, a_sign}
use Rattle.c_grammar_laws.specs.c_readers.ExpressionReader.{expression}
use Rattle.c_grammar_laws.specs.c_readers.CallReader.{call}
use Rattle.c_grammar_laws.specs.grammar.Exactness.{Eventually}
use Rattle.c_grammar_laws.specs.ExpressionLaws.{EndsAt}
use Rattle.c_grammar_laws.proofs.ExpressionComplete.{reads-whole, and_too}
use Rattle.c_grammar_laws.proofs.CallComplete.{reads-call}
use Rattle.c_statement_readers.specs.PartReader.{begins_call, Right, Value, Called, right_by, right, set_to, assigned, assignment, call_statement, simple_by, simple, return_of, returned_value, returned_by, returned, tested}
use Rattle.c_statement_laws.specs.StatementLaws.{InOrder}
use Rattle.c_statement_laws.proofs.SimpleGood.{RightIs}
use Rattle.c_statement_laws.proofs.FirstTokens.{leads_out, expression-leads, call-leads, no-call, call-begins}

-- an equation of a reader holds from where what it rests on holds
pub whence : {P Q : ℕ → Type 0} → ((n : ℕ) → P n → Q n) → Eventually P → Eventually Q
whence step e = record { first = e.first; holds = λ n h. step n (e.holds n h) }

module _ (scope : Scope) (good : InOrder scope) where
  -- an expression with a sign behind it
  pub expression-read : (place : ℕ) (e : CExpr) (sign : List ℕ) (p q r : Tokens) → place ≤ 9 → EndsAt place (Sign sign ∷ r) → ReadsExpr scope place e p q → ASign sign q r
      → Eventually (λ n. expression scope n place p ≡ found e (Sign sign ∷ r))
  expression-read place e sign p q r top ends reads is =
      reads-whole scope place e p (Sign sign ∷ r) good.of_names (subst (λ z. ReadsExpr scope place e p z) is reads) top ends

  pub none-begins : (place : ℕ) (e : CExpr) (sign : List ℕ) (p q r : Tokens) → place ≤ 9 → EndsAt place (Sign sign ∷ r) → bytes_eq sign (codes "(") ≡ false
      → ReadsExpr scope place e p q → ASign sign q r → begins_call scope p ≡ false
  none-begins place e sign p q r top ends other reads is =
      no-call scope place e p (Sign sign ∷ r) good (subst (λ z. ReadsExpr scope place e p z) is reads) top ends other

  -- ## What is assigned and returned

  value-read : (n : ℕ) (e : CExpr) (p q : Tokens) → begins_call scope p ≡ false → expression scope n 0 p ≡ found e q → right scope n p ≡ found (Value e) q
  unfolding right right_by
  value-read n e p q other h = ap (λ z. right_by scope n z p) other ∙ ap (λ z. z >>= (λ x. found (Value x))) h

  call-read : (n : ℕ) (one : CCall) (p q : Tokens) → begins_call scope p ≡ true → call scope n n p ≡ found one q → right scope n p ≡ found (Called one) q
  unfolding right right_by
  call-read n one p q begins h = ap (λ z. right_by scope n z p) begins ∙ ap (λ z. z >>= (λ x. found (Called x))) h

  pub right-read : (r : Right) (p q s : Tokens) → RightIs scope r p q → ASign (codes ";") q s → Eventually (λ n. right scope n p ≡ found r (Sign (codes ";") ∷ s))
  right-read (Value e) p q s reads is =
      whence (λ n h. value-read n e p (Sign (codes ";") ∷ s) (none-begins 0 e (codes ";") p q s (omega arith) (omega arith) refl reads is) h)
      (expression-read 0 e (codes ";") p q s (omega arith) (omega arith) reads is)
  right-read (Called one) p q s reads is =
      whence (λ n h. call-read n one p (Sign (codes ";") ∷ s) (call-begins scope reads) h)
      (reads-call scope good.of_names one p (Sign (codes ";") ∷ s) (subst (λ z. ReadsCall scope one p z) is reads))

  pub right-leads : (r : Right) (p q : Tokens) → RightIs scope r p q → leads_out p ≡ true
  right-leads (Value e) p q reads = expression-leads good.of_names reads
  right-leads (Called one) p q reads = call-leads good.of_names reads

  -- ## Calls and assignments

  assignment-read : (n : ℕ) (target : CExpr) (r : Right) (p q s : Tokens) → expression scope n 7 p ≡ found target (Sign (codes "=") ∷ q)
      → right scope n q ≡ found r (Sign (codes ";") ∷ s) → assignment scope n p ≡ found (set_to target r) s
  unfolding assignment assigned a_sign
  assignment-read n target r p q s h g =
      ap (λ z. z >>= assigned scope n) h ∙ ap (λ z. z >>= (λ x. λ t. a_sign (codes ";") t >>= (λ v. found (set_to target x)))) g

  simple-other : (n : ℕ) (p : Tokens) → begins_call scope p ≡ false → simple scope n p ≡ assignment scope n p
  unfolding simple simple_by
  simple-other n p h = ap (λ z. simple_by scope n z p) h

  simple-call : (n : ℕ) (p : Tokens) → begins_call scope p ≡ true → simple scope n p ≡ call_statement scope n p
  unfolding simple simple_by
  simple-call n p h = ap (λ z. simple_by scope n z p) h

  call-statement-read : (n : ℕ) (one : CCall) (p s : Tokens) → call scope n n p ≡ found one (Sign (codes ";") ∷ s) → call_statement scope n p ≡ found (stmt.Call one) s
  unfolding call_statement a_sign
  call-statement-read n one p s h = ap (λ z. z >>= (λ x. λ t. a_sign (codes ";") t >>= (λ u. found (stmt.Call x)))) h

  pub set-read : (target : CExpr) (r : Right) (p q s t u : Tokens) → ReadsExpr scope 7 target p q → ASign (codes "=") q s → RightIs scope r s t → ASign (codes ";") t u
      → Eventually (λ n. simple scope n p ≡ found (set_to target r) u)
  set-read target r p q s t u first equals reads end =
      whence
      (λ n both. simple-other n p (none-begins 7 target (codes "=") p q s (omega arith) (omega arith) refl first equals) ∙ assignment-read n target r p s u both.0 both.1)
      (and_too (expression-read 7 target (codes "=") p q s (omega arith) (omega arith) first equals) (right-read r s t u reads end))

  pub called-read : (one : CCall) (p q s : Tokens) → ReadsCall scope one p q → ASign (codes ";") q s → Eventually (λ n. simple scope n p ≡ found (stmt.Call one) s)
  called-read one p q s reads is =
      whence (λ n h. simple-call n p (call-begins scope reads) ∙ call-statement-read n one p s h)
      (reads-call scope good.of_names one p (Sign (codes ";") ∷ s) (subst (λ z. ReadsCall scope one p z) is reads))

  -- ## Returns

  first-other : (sign : List ℕ) → not (is_among sign (codes ";" ∷ codes "{" ∷ codes "}" ∷ [])) ≡ true → bytes_eq sign (codes ";") ≡ false
  first-other sign h = by (bytes_eq sign (codes ";")) refl
    where
      by : (same : Bool) → bytes_eq sign (codes ";") ≡ same → same ≡ false
      by false e = refl
      by true e = absurd (let k : false ≡ true = sym (ap (λ z. not (z || is_among sign (codes "{" ∷ codes "}" ∷ []))) e) ∙ h in cc)

  returned-other : (n : ℕ) (p : Tokens) → leads_out p ≡ true → returned scope n p ≡ returned_value scope n p
  unfolding returned returned_by
  returned-other n [] h = refl
  returned-other n (Sign sign ∷ more) h = ap (returned_by scope n sign more) (first-other sign h)
  returned-other n (Word word ∷ more) h = refl
  returned-other n (Digits m ∷ more) h = refl
  returned-other n (Quoted bytes ∷ more) h = refl
  returned-other n (Including ∷ more) h = refl
  returned-other n (Bad ∷ more) h = refl

  returned-value-read : (n : ℕ) (r : Right) (p s : Tokens) → right scope n p ≡ found r (Sign (codes ";") ∷ s) → returned_value scope n p ≡ found (return_of r) s
  unfolding returned_value a_sign
  returned-value-read n r p s h = ap (λ z. z >>= (λ x. λ t. a_sign (codes ";") t >>= (λ u. found (return_of x)))) h

  pub returned-read : (r : Right) (p q s : Tokens) → RightIs scope r p q → ASign (codes ";") q s → Eventually (λ n. returned scope n p ≡ found (return_of r) s)
  returned-read r p q s reads is =
      whence (λ n h. returned-other n p (right-leads r p q reads) ∙ returned-value-read n r p s h) (right-read r p q s reads is)

  pub return-alone : (n : ℕ) (p q : Tokens) → ASign (codes ";") p q → returned scope n p ≡ found (stmt.Return None) q
  unfolding returned returned_by
  return-alone n p q is = ap (returned scope n) is

  -- ## What is tested

  tested-by : (n : ℕ) (e : CExpr) (p q : Tokens) → expression scope n 0 p ≡ found e (Sign (codes ")") ∷ q) → tested scope n (Sign (codes "(") ∷ p) ≡ found e q
  unfolding tested a_sign
  tested-by n e p q h = ap (λ z. z >>= (λ x. λ t. a_sign (codes ")") t >>= (λ v. found x))) h

  -- what is tested behind a word
  pub tested-read : {word : List ℕ} {e : CExpr} {p q : Tokens} → ReadsTested scope word e p q → (m : Tokens) → p ≡ Word word ∷ m → Eventually (λ n. tested scope n m ≡ found e q)
  tested-read (form.tested word {e = e} {q = q} {r = r} {s = s} {t = t} a opens reads closes) m is =
      whence (λ n h. ap (tested scope n) (rest-of-word m q (sym is ∙ a) ∙ opens) ∙ tested-by n e r t h)
      (expression-read 0 e (codes ")") r s t (omega arith) (omega arith) reads closes)
    where
      rest-of-word : (m q : Tokens) → Word word ∷ m ≡ Word word ∷ q → m ≡ q
      rest-of-word m q h = cc
