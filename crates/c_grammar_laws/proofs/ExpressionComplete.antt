-- What is spelled is read, where what follows does not go on.
use Rattle.std.proofs.Common.{◌≡◌, sym, ap, ◌∙◌, subst, ℕ, zero, suc, pred, ◌+◌, ◌≤◌, pos, le_trans, le_refl, [], ◌∷◌, ◌++◌, codes, Option, Some, None, arith}
use Rattle.c_readers.specs.c_tree.declared.expression.CExpr.{CExpr}
use Rattle.c_readers.specs.c_tree.declared.expression.CExpr.TheVariants as expr
use Rattle.c_readers.specs.c_tree.Tokens.{Word, Digits, Quoted, Sign, Including, Bad}
use Rattle.c_readers.specs.c_tree.CWords.{prefix_sign, infix_sign, infix_level, cast_tokens, extreme_word}
use Rattle.c_readers.specs.c_tree.CExpressionText as text
use Rattle.c_readers.specs.c_tree.CExpressionText.{Scope, ReadsExpr}
use Rattle.c_readers.specs.Readers.{Tokens, Outcome, found, lookup, ◌>>=◌}
use Rattle.c_readers.specs.ExpressionReader as reader
use Rattle.c_readers.specs.ExpressionReader.{Operand, operand_of, Operator, Infix, Subscript, Member, Choice, operators, binding, follow, expression, expression_behind}
use Rattle.c_readers.specs.grammar.Exactness.{Eventually}
use Rattle.c_grammar_laws.specs.ExpressionLaws.{OfNames, EndsAt}
use Rattle.c_grammar_laws.proofs.ExpressionTables.{level-most}
use Rattle.c_grammar_laws.proofs.ExpressionSteps.{stays, infix-read, index-read, field-read, choice-read, number-read, string-read, name-read, paren-read, prefix-read, cast-read, size-read, extreme-read, absolute-read, expression-opens, known-free, follow-infix}

-- ## What holds from some number of nests on

pub later : {P Q : ℕ → Type 0} → ((n : ℕ) → P n → Q (suc n)) → Eventually P → Eventually Q
later {P} {Q} step e = record { first = suc e.first; holds = by }
  where
    by : (n : ℕ) → suc e.first ≤ n → Q n
    by zero h = absurd (let k : suc e.first ≤ 0 = h in omega (arith, k))
    by (suc n) h = step n (e.holds n (omega (arith, h)))

pub always : {P : ℕ → Type 0} → ((n : ℕ) → P n) → Eventually P
always all = record { first = 0; holds = λ n h. all n }

pub and_too : {P Q : ℕ → Type 0} → Eventually P → Eventually Q → Eventually (λ n. P n × Q n)
and_too x y = record { first = x.first + y.first; holds = λ n h. (x.holds n (omega (arith, h)), y.holds n (omega (arith, h))) }

pub follow-at-most : {f x y : ℕ} → f ≡ x → x ≤ y → f ≤ y
follow-at-most {y = y} h k = subst (λ z. z ≤ y) (sym h) k

-- nothing binds as closely as signs and casts and more loosely than what stands behind an operand
no-seven-by : (row : Option Operator) → binding row ≤ 7 → binding row ≤ 6
no-seven-by None k = omega arith
no-seven-by (Some (Infix o)) k = level-most o
no-seven-by (Some Subscript) k = absurd (let h : 8 ≤ 7 = k in omega (arith, h))
no-seven-by (Some Member) k = absurd (let h : 8 ≤ 7 = k in omega (arith, h))
no-seven-by (Some Choice) k = omega arith

no-seven : (q : Tokens) → follow q ≤ 7 → follow q ≤ 6
no-seven [] h = omega arith
no-seven (Including ∷ p) h = omega arith
no-seven (Bad ∷ p) h = omega arith
no-seven (Digits v ∷ p) h = omega arith
no-seven (Quoted bytes ∷ p) h = omega arith
no-seven (Word word ∷ p) h = omega arith
no-seven (Sign word ∷ p) h = no-seven-by (lookup word operators) h

module _ (scope : Scope) where
  abbrev Answer : Type 0
  Answer = Option (Outcome CExpr)

  -- the answer of an expression's reader, and of what goes on behind an operand, from some number of nests on
  abbrev pub Gives : ℕ → Tokens → Answer → Type 0
  Gives place p answer = Eventually (λ n. expression scope n place p ≡ answer)

  abbrev pub GoesOn : ℕ → ℕ → CExpr → Tokens → Answer → Type 0
  GoesOn place level e p answer = Eventually (λ n. expression_behind scope n place level e p ≡ answer)

  pub stopped : (m l : ℕ) (e : CExpr) (q : Tokens) → follow q ≤ pred m → GoesOn m l e q (found e q)
  unfolding expression_behind
  stopped m l e q h = later {P = λ n. ℕ} (λ n x. stays (expression scope n) (expression_behind scope n m) m l e q h) (always (λ n. n))

  abbrev on : ℕ → ℕ → Option (Outcome Operand) → Answer
  on n m first = first >>= (λ s. expression_behind scope n m s.level s.tree)

  -- an operand, and what goes on behind it
  from-operand : (m l : ℕ) (e : CExpr) (p q : Tokens) (answer : Answer) {P : ℕ → Type 0} → Eventually P
      → ((n : ℕ) → P n → reader.operand scope (expression scope n) m p ≡ found (operand_of l e) q) → GoesOn m l e q answer → Gives m p answer
  unfolding expression
  from-operand m l e p q answer held step go = later (λ n z. ap (on n m) (step n z.0) ∙ z.1) (and_too held go)

  always-held : Eventually (λ n. Unit {0})
  always-held = always (λ n. tt)

  -- behind an operand: an operator, and what goes on behind what it makes
  from-operator : (m l k : ℕ) (e x : CExpr) (p q : Tokens) (answer : Answer) {P : ℕ → Type 0} → Eventually P
      → ((n : ℕ) → P n → reader.onward (expression scope n) (expression_behind scope n m) m l e p ≡ expression_behind scope n m k x q)
      → GoesOn m k x q answer → GoesOn m l e p answer
  unfolding expression_behind
  from-operator m l k e x p q answer held step go = later (λ n z. step n z.0 ∙ z.1) (and_too held go)

  at-once : (m : ℕ) (answer : Answer) (p q : Tokens) → p ≡ q → Gives m q answer → Gives m p answer
  at-once m answer p q h e = subst (λ z. Gives m z answer) (sym h) e

  with-rest : (place : ℕ) (e : CExpr) (p q r : Tokens) → q ≡ r → Gives place p (found e q) → Gives place p (found e r)
  with-rest place e p q r h x = subst (λ z. Gives place p (found e z)) h x

  pub complete : {place : ℕ} {e : CExpr} {p q : Tokens} → OfNames scope → ReadsExpr scope place e p q → place ≤ 9 → follow q ≤ place
      → (m : ℕ) → m ≤ place → (answer : Answer) → ((l : ℕ) → place ≤ l → GoesOn m l e q answer) → Gives m p answer
  complete of (text.a_number place v {p = p} {q = q} h x) top quiet m close answer go =
      at-once m answer p (Digits v ∷ q) x (from-operand m 9 (expr.Number (pos v)) (Digits v ∷ q) q answer always-held (λ n u. number-read scope (expression scope n) m v q h) (go 9 top))
  complete of (text.a_string place bytes {p = p} {q = q} x) top quiet m close answer go =
      at-once m answer p (Quoted bytes ∷ q) x (from-operand m 9 (expr.Str bytes) (Quoted bytes ∷ q) q answer always-held (λ n u. string-read scope (expression scope n) m bytes q) (go 9 top))
  complete of (text.a_name place name {p = p} {q = q} h x) top quiet m close answer go =
      at-once m answer p (Word name ∷ q) x (from-operand m 9 (expr.Name name) (Word name ∷ q) q answer always-held (λ n u. name-read scope (expression scope n) m name q (known-free of h) h) (go 9 top))
  complete of (text.parenthesised place {e = e} {p = p} {q = q} {r = r} {s = s} x d y) top quiet m close answer go =
      let inner : Gives 0 q (found e (Sign (codes ")") ∷ s)) =
      with-rest 0 e q r (Sign (codes ")") ∷ s) y (complete of d (omega arith) (follow-at-most (ap follow y) (omega arith)) 0 (omega arith) (found e r)
      (λ l h. stopped 0 l e r (follow-at-most (ap follow y) (omega arith)))) in
      at-once m answer p (Sign (codes "(") ∷ q) x (from-operand m 9 e (Sign (codes "(") ∷ q) s answer inner (λ n z. paren-read scope (expression scope n) m e q s (expression-opens of d) z) (go 9 top))
  complete of (text.prefixed place o {e = e} {p = p} {q = q} {r = r} h x d) top quiet m close answer go =
      let inner : Gives 7 q (found e r) =
      complete of d (omega arith) (le_trans quiet h) 7 (omega arith) (found e r) (λ l k. stopped 7 l e r (no-seven r (le_trans quiet h))) in
      at-once m answer p (Sign (prefix_sign o) ∷ q) x (from-operand m 7 (expr.Unary o e) (Sign (prefix_sign o) ∷ q) r answer inner (λ n z. prefix-read scope (expression scope n) m o e q r (le_trans close h) z) (go 7 h))
  complete of (text.casted place to {e = e} {p = p} {q = q} {r = r} {s = s} {t = t} h x y w d) top quiet m close answer go =
      let inner : Gives 7 s (found e t) =
      complete of d (omega arith) (le_trans quiet h) 7 (omega arith) (found e t) (λ l k. stopped 7 l e t (no-seven t (le_trans quiet h))) in
      let whole : p ≡ Sign (codes "(") ∷ (cast_tokens to ++ (Sign (codes ")") ∷ s)) =
      x ∙ ap (λ z. Sign (codes "(") ∷ z) (y ∙ ap (λ z. cast_tokens to ++ z) w) in
      at-once m answer p (Sign (codes "(") ∷ (cast_tokens to ++ (Sign (codes ")") ∷ s))) whole (from-operand m 7 (expr.Cast to e) (Sign (codes "(") ∷ (cast_tokens to ++ (Sign (codes ")") ∷ s))) t answer inner
      (λ n z. cast-read scope (expression scope n) m to e s t (le_trans close h) z) (go 7 h))
  complete of (text.between place o {a = a} {b = b} {p = p} {q = q} {r = r} {s = s} h d x f) top quiet m close answer go =
      let right : Gives (suc (infix_level o)) r (found b s) =
      complete of f (let k = level-most o in omega (arith, k)) (le_trans quiet (le_trans h (omega arith))) (suc (infix_level o)) (le_refl (suc (infix_level o))) (found b s)
      (λ l k. stopped (suc (infix_level o)) l b s (le_trans quiet h)) in
      complete of d (let k = level-most o in omega (arith, k)) (follow-at-most (ap follow x ∙ follow-infix o r) (le_refl (infix_level o))) m (le_trans close h) answer
      (λ l k.
      subst (λ z. GoesOn m l a z answer) (sym x)
      (from-operator m l (infix_level o) a (expr.Binary o a b) (Sign (infix_sign o) ∷ r) s answer right
      (λ n z. infix-read (expression scope n) (expression_behind scope n m) m l a o b r s (le_trans close h) k z) (go (infix_level o) h)))
  complete of (text.chosen place {e = e} {a = a} {b = b} {p = p} {q = q} {r = r} {s = s} {t = t} {u = u} h d x f y g) top quiet m close answer go =
      let first : Gives 0 r (found a (Sign (codes ":") ∷ t)) =
      with-rest 0 a r s (Sign (codes ":") ∷ t) y (complete of f (omega arith) (follow-at-most (ap follow y) (omega arith)) 0 (omega arith) (found a s)
      (λ l k. stopped 0 l a s (follow-at-most (ap follow y) (omega arith)))) in
      let second : Gives 0 t (found b u) =
      complete of g (omega arith) (le_trans quiet h) 0 (omega arith) (found b u) (λ l k. stopped 0 l b u (le_trans quiet h)) in
      complete of d (omega arith) (follow-at-most (ap follow x) (omega arith)) m (le_trans close (le_trans h (omega arith))) answer
      (λ l k.
      subst (λ z. GoesOn m l e z answer) (sym x)
      (from-operator m l 0 e (expr.Choose e a b) (Sign (codes "?") ∷ r) u answer (and_too first second)
      (λ n z. choice-read (expression scope n) (expression_behind scope n m) m l e a b r t u (le_trans close h) k z.0 z.1) (go 0 h)))
  complete of (text.indexed place {e = e} {i = i} {q = q} {r = r} {s = s} {t = t} h d x f y) top quiet m close answer go =
      let inner : Gives 0 r (found i (Sign (codes "]") ∷ t)) =
      with-rest 0 i r s (Sign (codes "]") ∷ t) y (complete of f (omega arith) (follow-at-most (ap follow y) (omega arith)) 0 (omega arith) (found i s)
      (λ l k. stopped 0 l i s (follow-at-most (ap follow y) (omega arith)))) in
      complete of d (omega arith) (follow-at-most (ap follow x) (le_refl 8)) m (le_trans close h) answer
      (λ l k.
      subst (λ z. GoesOn m l e z answer) (sym x)
      (from-operator m l 8 e (expr.Index e i) (Sign (codes "[") ∷ r) t answer inner
      (λ n z. index-read (expression scope n) (expression_behind scope n m) m l e i r t (le_trans close h) k z) (go 8 h)))
  complete of (text.a_field place {e = e} name {q = q} {r = r} {s = s} h named d x y) top quiet m close answer go =
      complete of d (omega arith) (follow-at-most (ap follow x) (le_refl 8)) m (le_trans close h) answer
      (λ l k.
      subst (λ z. GoesOn m l e z answer) (sym (x ∙ ap (λ z. Sign (codes ".") ∷ z) y))
      (from-operator m l 8 e (expr.Field e name) (Sign (codes ".") ∷ Word name ∷ s) s answer always-held
      (λ n z. field-read (expression scope n) (expression_behind scope n m) m l e name s (le_trans close h) k named) (go 8 h)))
  complete of (text.size place {p = p} {q = q} {r = r} {s = s} {t = t} x y z w) top quiet m close answer go =
      at-once m answer p (Word (codes "sizeof") ∷ Sign (codes "(") ∷ Word (codes "integer") ∷ Sign (codes ")") ∷ t)
      (x ∙ ap (λ v. Word (codes "sizeof") ∷ v) (y ∙ ap (λ v. Sign (codes "(") ∷ v) (z ∙ ap (λ v. Word (codes "integer") ∷ v) w)))
      (from-operand m 9 expr.SizeInt (Word (codes "sizeof") ∷ Sign (codes "(") ∷ Word (codes "integer") ∷ Sign (codes ")") ∷ t) t answer always-held
      (λ n u. size-read scope (expression scope n) m t) (go 9 top))
  complete of (text.extreme_of place which {a = a} {b = b} {p = p} {q = q} {r = r} {s = s} {t = t} {u = u} {v = v} x y d z f w) top quiet m close answer go =
      let first : Gives 0 r (found a (Sign (codes ",") ∷ t)) =
      with-rest 0 a r s (Sign (codes ",") ∷ t) z (complete of d (omega arith) (follow-at-most (ap follow z) (omega arith)) 0 (omega arith) (found a s)
      (λ l k. stopped 0 l a s (follow-at-most (ap follow z) (omega arith)))) in
      let second : Gives 0 t (found b (Sign (codes ")") ∷ v)) =
      with-rest 0 b t u (Sign (codes ")") ∷ v) w (complete of f (omega arith) (follow-at-most (ap follow w) (omega arith)) 0 (omega arith) (found b u)
      (λ l k. stopped 0 l b u (follow-at-most (ap follow w) (omega arith)))) in
      at-once m answer p (Word (extreme_word which) ∷ Sign (codes "(") ∷ r)
      (x ∙ ap (λ g. Word (extreme_word which) ∷ g) y)
      (from-operand m 9 (expr.MaxMin which a b) (Word (extreme_word which) ∷ Sign (codes "(") ∷ r) v answer (and_too first second)
      (λ n g. extreme-read scope (expression scope n) m which a b r t v g.0 g.1) (go 9 top))
  complete of (text.magnitude place {e = e} {p = p} {q = q} {r = r} {s = s} {t = t} x y d z) top quiet m close answer go =
      let inner : Gives 0 r (found e (Sign (codes ")") ∷ t)) =
      with-rest 0 e r s (Sign (codes ")") ∷ t) z (complete of d (omega arith) (follow-at-most (ap follow z) (omega arith)) 0 (omega arith) (found e s)
      (λ l k. stopped 0 l e s (follow-at-most (ap follow z) (omega arith)))) in
      at-once m answer p (Word (codes "abs") ∷ Sign (codes "(") ∷ r)
      (x ∙ ap (λ g. Word (codes "abs") ∷ g) y)
      (from-operand m 9 (expr.Abs e) (Word (codes "abs") ∷ Sign (codes "(") ∷ r) t answer inner (λ n g. absolute-read scope (expression scope n) m e r t g) (go 9 top))

  -- an expression is read whole where nothing behind it binds as closely as its place asks
  pub reads-whole : (place : ℕ) (e : CExpr) (p q : Tokens) → OfNames scope → ReadsExpr scope place e p q → place ≤ 9 → EndsAt place q → Gives place p (found e q)
  reads-whole place e p q of d top ends =
      complete of d top (le_trans ends (omega arith)) place (le_refl place) (found e q) (λ l h. stopped place l e q ends)
