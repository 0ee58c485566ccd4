-- What the reader of expressions gives is spelled.
use Rattle.std.proofs.Common.{◌≡◌, refl, sym, ap, subst, ◌∙◌, ℕ, zero, suc, ◌≤◌, nat_le, leb-true, pos, Bool, true, false, List, [], ◌∷◌, ◌++◌, append_assoc, append-nil, length, ◌+◌, Option, Some, None, if◌then◌else◌, le_trans, le_refl, arith}
use Rattle.fortran_grammar.specs.f_tree.declared.expressions.BinaryOp.{BinaryOp}
use Rattle.fortran_grammar.specs.f_tree.declared.expressions.BinaryOp.TheVariants as operator
use Rattle.fortran_grammar.specs.f_tree.declared.expressions.Expr.{Expr}
use Rattle.fortran_grammar.specs.f_tree.declared.expressions.Expr as expr
use Rattle.fortran_grammar.specs.fortran_lexemes.Lexemes.{Lexemes, Name, Number, Quoted, Infix, Negation, Truth, Mark}
use Rattle.fortran_grammar.specs.fortran_lexemes.declared.signs.Sign.TheVariants as sign
use Rattle.fortran_grammar.specs.ExpressionSpelling as spell
use Rattle.fortran_grammar.specs.ExpressionSpelling.{level, left, right, SpellsExpr, SpellsPlace, SpellsArguments, SpellsBounds, SpellsLast}
use Rattle.grammar_laws.specs.ExpressionReading as reading
use Rattle.grammar_laws.specs.ExpressionReading.{◌>>=◌, Levels, Going, behind_open, behind_close, behind_comma, behind_colon, operator_at}
use Rattle.grammar_laws.proofs.ExpressionFacts.{none≢some, some_injective, between_steps, left-small, right-small, behind_made, behind_operand, operator-is, operator-low, open-is, close-is, comma-is, colon-is}

record Numbered (value : ℕ) (e : Expr) : Type 0 where
  small : value ≤ 2147483647
  is : expr.Int (pos value) ≡ e

number_by : (value : ℕ) (e : Expr) (test : Bool) → nat_le value 2147483647 ≡ test → (if test then Some (expr.Int (pos value)) else None) ≡ Some e → Numbered value e
number_by value e true t h = record { small = leb-true value 2147483647 t; is = some_injective h }
number_by value e false t h = absurd (none≢some h)

number_is : (value : ℕ) (e : Expr) → reading.number value ≡ Some e → Numbered value e
unfolding reading.number
number_is value e h = number_by value e (nat_le value 2147483647) refl h

-- an expression of a level has each lower one
pub lowered : (k : ℕ) (l : ℕ) (e : Expr) (p q : Lexemes) → SpellsExpr l e p q → k ≤ l → SpellsExpr k e p q
lowered k _ _ _ _ (spell.number l digits value after h small) le = spell.number k digits value after (le_trans le h) small
lowered k _ _ _ _ (spell.text l characters after h) le = spell.text k characters after (le_trans le h)
lowered k _ _ _ _ (spell.truth l b after h) le = spell.truth k b after (le_trans le h)
lowered k _ _ _ _ (spell.place l e p q h of) le = spell.place k e p q (le_trans le h) of
lowered k _ _ _ _ (spell.call l name after h) le = spell.call k name after (le_trans le h)
lowered k _ _ _ _ (spell.parenthesised l e inner after h of) le = spell.parenthesised k e inner after (le_trans le h) of
lowered k _ _ _ _ (spell.negative l e inner after h of) le = spell.negative k e inner after (le_trans le h) of
lowered k _ _ _ _ (spell.positive l e inner after h of) le = spell.positive k e inner after (le_trans le h) of
lowered k _ _ _ _ (spell.negated l e inner after h of) le = spell.negated k e inner after (le_trans le h) of
lowered k _ _ _ _ (spell.between l o a b p m q h x y) le = spell.between k o a b p m q (le_trans le h) x y

-- what a reader of levels gives
pub record Given (l : ℕ) (p : Lexemes) (found : Expr × Lexemes) : Type 0 where
  pub spelled : SpellsExpr l found.0 p found.1
  pub ends : operator_at l found.1 ≡ None

abbrev pub SoundLevels : Levels → Type 0
SoundLevels read = (l : ℕ) (p : Lexemes) (found : Expr × Lexemes) → l ≤ 10 → read l p ≡ Some found → Given l p found

-- what goes on behind arguments
pub record Added (found : List Expr) (p : Lexemes) (all : List Expr × Lexemes) : Type 0 where
  pub more : List Expr
  pub is : all.0 ≡ found ++ more
  pub spelled : (e : Expr) (q : Lexemes) → SpellsExpr 1 e q p → SpellsArguments (e ∷ more) q all.1

abbrev pub SoundGoing : Going → Type 0
SoundGoing go = (found : List Expr) (p : Lexemes) (all : List Expr × Lexemes) → go found p ≡ Some all → Added found p all

one_level : 1 ≤ 10
one_level = omega arith

module _ (read : Levels) (sound : SoundLevels read) where
  -- an expression and `)`
  pub record Closed (p : Lexemes) (found : Expr × Lexemes) : Type 0 where
    pub spelled : SpellsExpr 1 found.0 p (Mark sign.Close ∷ found.1)

  pub closed : (p : Lexemes) (found : Expr × Lexemes) → reading.last_place read p ≡ Some found → SpellsExpr 1 found.0 p (Mark sign.Close ∷ found.1)
  unfolding reading.last_place
  closed p found h =
      let a = between_steps (read 1 p) (λ x. behind_close x.1 >>= (λ rest. Some (x.0, rest))) found h in
      let b = between_steps (behind_close a.found.1) (λ rest. Some (a.found.0, rest)) found a.goes in
      let e : (a.found.0, b.found) ≡ found = some_injective b.goes in
      let s : SpellsExpr 1 a.found.0 p (Mark sign.Close ∷ b.found) =
      subst (λ (r : Lexemes). SpellsExpr 1 a.found.0 p r) (close-is a.found.1 b.found b.is) (sound 1 p a.found one_level a.is).spelled in
      subst (λ (f : Expr × Lexemes). SpellsExpr 1 f.0 p (Mark sign.Close ∷ f.1)) e s

  -- what is read behind the colon of a substring
  pub record Parted (base : Expr) (first : Option Expr) (p : Lexemes) (found : Expr × Lexemes) : Type 0 where
    pub last : Option Expr
    pub is : found.0 ≡ expr.Part base first last
    pub spelled : SpellsLast last p found.1

  parted_by : (base : Expr) (first : Option Expr) (p : Lexemes) (found : Expr × Lexemes) (behind : Option Lexemes) → behind_close p ≡ behind
      → reading.part_by read base first p behind ≡ Some found → Parted base first p found
  unfolding reading.part_by
  parted_by base first p found (Some rest) t h =
      subst (Parted base first p) (some_injective h) (record {
        last = None;
        is = refl;
        spelled = subst (λ (r : Lexemes). SpellsLast None r rest) (sym (close-is p rest t)) (spell.to_last rest);
      })
  parted_by base first p found None t h =
      let a = between_steps (reading.last_place read p) (λ x. Some (expr.Part base first (Some x.0), x.1)) found h in
      subst (Parted base first p) (some_injective a.goes) (record {
        last = Some a.found.0;
        is = refl;
        spelled = spell.to_place a.found.0 p a.found.1 (closed p a.found a.is);
      })

  pub parted : (base : Expr) (first : Option Expr) (p : Lexemes) (found : Expr × Lexemes) → reading.part read base first p ≡ Some found → Parted base first p found
  unfolding reading.part
  parted base first p found h = parted_by base first p found (behind_close p) refl h

  -- what is read behind the parenthesis of a substring of an element
  pub record Bounded (base : Expr) (p : Lexemes) (found : Expr × Lexemes) : Type 0 where
    pub first : Option Expr
    pub last : Option Expr
    pub is : found.0 ≡ expr.Part base first last
    pub spelled : SpellsBounds first last p found.1

  from_colon : (base : Expr) (p rest : Lexemes) (found : Expr × Lexemes) → p ≡ Mark sign.Colon ∷ rest → reading.part read base None rest ≡ Some found → Bounded base p found
  from_colon base p rest found e h =
      let b = parted base None rest found h in
      record {
        first = None;
        last = b.last;
        is = b.is;
        spelled = subst (λ (r : Lexemes). SpellsBounds None b.last r found.1) (sym e) (spell.from_first b.last rest found.1 b.spelled);
      }

  from_expression : (base : Expr) (e : Expr) (p q rest : Lexemes) (found : Expr × Lexemes) → SpellsExpr 1 e p q → behind_colon q ≡ Some rest
      → reading.part read base (Some e) rest ≡ Some found → Bounded base p found
  from_expression base e p q rest found s t h =
      let b = parted base (Some e) rest found h in
      let s' : SpellsExpr 1 e p (Mark sign.Colon ∷ rest) = subst (SpellsExpr 1 e p) (colon-is q rest t) s in
      record { first = Some e; last = b.last; is = b.is; spelled = spell.from_place e b.last p rest found.1 s' b.spelled }

  bounded_by : (base : Expr) (p : Lexemes) (found : Expr × Lexemes) (behind : Option Lexemes) → behind_colon p ≡ behind
      → reading.part_of_by read base p behind ≡ Some found → Bounded base p found
  unfolding reading.part_of_by reading.part_from
  bounded_by base p found (Some rest) t h = from_colon base p rest found (colon-is p rest t) h
  bounded_by base p found None t h =
      let a = between_steps (read 1 p) (λ x. behind_colon x.1 >>= (λ rest. reading.part read base (Some x.0) rest)) found h in
      let b = between_steps (behind_colon a.found.1) (λ rest. reading.part read base (Some a.found.0) rest) found a.goes in
      from_expression base a.found.0 p a.found.1 b.found found (sound 1 p a.found one_level a.is).spelled b.is b.goes

  pub bounded : (base : Expr) (p : Lexemes) (found : Expr × Lexemes) → reading.part_of read base p ≡ Some found → Bounded base p found
  unfolding reading.part_of
  bounded base p found h = bounded_by base p found (behind_colon p) refl h

  -- an element, or a substring of it
  element_by : (x : List ℕ) (es : List Expr) (inner p : Lexemes) (found : Expr × Lexemes) (behind : Option Lexemes) → behind_open p ≡ behind → SpellsArguments es inner p
      → reading.element_by read (expr.Apply x es) p behind ≡ Some found → SpellsPlace found.0 (Name x ∷ Mark sign.Open ∷ inner) found.1
  unfolding reading.element_by
  element_by x es inner p found (Some rest) t s h =
      let b = bounded (expr.Apply x es) rest found h in
      let s' : SpellsArguments es inner (Mark sign.Open ∷ rest) = subst (SpellsArguments es inner) (open-is p rest t) s in
      subst (λ (e : Expr). SpellsPlace e (Name x ∷ Mark sign.Open ∷ inner) found.1) (sym b.is) (spell.part_of_element x es b.first b.last inner rest found.1 s' b.spelled)
  element_by x es inner p found None t s h =
      subst (λ (f : Expr × Lexemes). SpellsPlace f.0 (Name x ∷ Mark sign.Open ∷ inner) f.1) (some_injective h) (spell.element x es inner p s)

  module _ (go : Going) (goes : SoundGoing go) where
    applied_by : (x : List ℕ) (e : Expr) (inner p : Lexemes) (found : Expr × Lexemes) (behind : Option Lexemes) → behind_colon p ≡ behind → SpellsExpr 1 e inner p
        → reading.applied_by read go x e p behind ≡ Some found → SpellsPlace found.0 (Name x ∷ Mark sign.Open ∷ inner) found.1
    unfolding reading.applied_by reading.element
    applied_by x e inner p found (Some rest) t s h =
        let b = from_expression (expr.Name x) e inner p rest found s t h in
        subst (λ (made : Expr). SpellsPlace made (Name x ∷ Mark sign.Open ∷ inner) found.1) (sym b.is) (spell.part_of_variable x b.first b.last inner found.1 b.spelled)
    applied_by x e inner p found None t s h =
        let a = between_steps (go (e ∷ []) p) (λ y. reading.element read (expr.Apply x y.0) y.1) found h in
        let g = goes (e ∷ []) p a.found a.is in
        element_by x a.found.0 inner a.found.1 found (behind_open a.found.1) refl
        (subst (λ (es : List Expr). SpellsArguments es inner a.found.1) (sym g.is) (g.spelled e inner s)) a.goes

    subscripted_by : (x : List ℕ) (p : Lexemes) (found : Expr × Lexemes) (behind : Option Lexemes) → behind_colon p ≡ behind
        → reading.subscripted_by read go x p behind ≡ Some found → SpellsPlace found.0 (Name x ∷ Mark sign.Open ∷ p) found.1
    unfolding reading.subscripted_by reading.applied
    subscripted_by x p found (Some rest) t h =
        let b = from_colon (expr.Name x) p rest found (colon-is p rest t) h in
        subst (λ (made : Expr). SpellsPlace made (Name x ∷ Mark sign.Open ∷ p) found.1) (sym b.is) (spell.part_of_variable x b.first b.last p found.1 b.spelled)
    subscripted_by x p found None t h =
        let a = between_steps (read 1 p) (λ y. reading.applied read go x y.0 y.1) found h in
        applied_by x a.found.0 p a.found.1 found (behind_colon a.found.1) refl (sound 1 p a.found one_level a.is).spelled a.goes

    named_by : (x : List ℕ) (p : Lexemes) (found : Expr × Lexemes) (behind : Option Lexemes) → behind_open p ≡ behind
        → reading.named_by read go x p behind ≡ Some found → SpellsPlace found.0 (Name x ∷ p) found.1
    unfolding reading.named_by reading.subscripted
    named_by x p found (Some rest) t h =
        subst (λ (r : Lexemes). SpellsPlace found.0 (Name x ∷ r) found.1) (sym (open-is p rest t)) (subscripted_by x rest found (behind_colon rest) refl h)
    named_by x p found None t h =
        subst (λ (f : Expr × Lexemes). SpellsPlace f.0 (Name x ∷ p) f.1) (some_injective h) (spell.name x p)

    pub named : (x : List ℕ) (p : Lexemes) (found : Expr × Lexemes) → reading.named read go x p ≡ Some found → SpellsPlace found.0 (Name x ∷ p) found.1
    unfolding reading.named
    named x p found h = named_by x p found (behind_open p) refl h

    -- what is read by level 10
    called_by : (x : List ℕ) (p : Lexemes) (found : Expr × Lexemes) (behind : Option Lexemes) → (behind_open p >>= behind_close) ≡ behind
        → reading.called_by read go x p behind ≡ Some found → SpellsExpr 10 found.0 (Name x ∷ p) found.1
    unfolding reading.called_by
    called_by x p found (Some rest) t h =
        let a = between_steps (behind_open p) behind_close rest t in
        let e : p ≡ Mark sign.Open ∷ Mark sign.Close ∷ rest = open-is p a.found a.is ∙ ap (λ r. Mark sign.Open ∷ r) (close-is a.found rest a.goes) in
        let s : SpellsExpr 10 (expr.Apply x []) (Name x ∷ p) rest =
        subst (λ (r : Lexemes). SpellsExpr 10 (expr.Apply x []) (Name x ∷ r) rest) (sym e) (spell.call 10 x rest (le_refl 10)) in
        subst (λ (f : Expr × Lexemes). SpellsExpr 10 f.0 (Name x ∷ p) f.1) (some_injective h) s
    called_by x p found None t h = spell.place 10 found.0 (Name x ∷ p) found.1 (le_refl 10) (named x p found h)

    inside : (p : Lexemes) (found : Expr × Lexemes) → reading.parenthesised read p ≡ Some found → SpellsExpr 10 found.0 (Mark sign.Open ∷ p) found.1
    unfolding reading.parenthesised
    inside p found h =
        let a = between_steps (reading.last_place read p) (λ y. Some (expr.Paren y.0, y.1)) found h in
        subst (λ (f : Expr × Lexemes). SpellsExpr 10 f.0 (Mark sign.Open ∷ p) f.1) (some_injective a.goes)
        (spell.parenthesised 10 a.found.0 p a.found.1 (le_refl 10) (closed p a.found a.is))

    abbrev AtTen : Lexemes → Expr × Lexemes → Type 0
    AtTen p found = SpellsExpr 10 found.0 p found.1

    numbered : (digits : List ℕ) (value : ℕ) (p : Lexemes) (found : Expr × Lexemes) → (reading.number value >>= (λ e. Some (e, p))) ≡ Some found
        → AtTen (Number digits value ∷ p) found
    numbered digits value p found h =
        let a = between_steps (reading.number value) (λ e. Some (e, p)) found h in
        let n = number_is value a.found a.is in
        subst (AtTen (Number digits value ∷ p)) (ap (λ (e : Expr). (e, p)) n.is ∙ some_injective a.goes) (spell.number 10 digits value p (le_refl 10) n.small)

    primary : (p : Lexemes) (found : Expr × Lexemes) → reading.primary read go p ≡ Some found → AtTen p found
    unfolding reading.primary reading.called
    primary (Name x ∷ more) found h = called_by x more found (behind_open more >>= behind_close) refl h
    primary (Number digits value ∷ more) found h = numbered digits value more found h
    primary (Quoted characters ∷ more) found h = subst (AtTen (Quoted characters ∷ more)) (some_injective h) (spell.text 10 characters more (le_refl 10))
    primary (Truth b ∷ more) found h = subst (AtTen (Truth b ∷ more)) (some_injective h) (spell.truth 10 b more (le_refl 10))
    primary (Mark sign.Open ∷ more) found h = inside more found h
    primary other found h = absurd (none≢some h)

    -- an operand, and the level that what goes on behind it may ask for
    pub record Operand (l : ℕ) (p : Lexemes) (found : Expr × Lexemes) : Type 0 where
      pub made : ℕ
      pub high : l ≤ made
      pub spelled : SpellsExpr made found.0 p found.1
      pub fits : (o : BinaryOp) (more : Lexemes) → found.1 ≡ Infix o ∷ more → left o ≤ made

    -- what is read at a level of what stands behind a word, which makes the level below
    fitting : (k : ℕ) → k ≤ 8 → (q : Lexemes) → operator_at (suc k) q ≡ None → (o : BinaryOp) (more : Lexemes) → q ≡ Infix o ∷ more → left o ≤ k
    fitting k small q ends o more e =
        behind_operand k o small (operator-low (suc k) o more (subst (λ (r : Lexemes). operator_at (suc k) r ≡ None) e ends))

    signed : (l : ℕ) (o : BinaryOp) (p : Lexemes) (found : Expr × Lexemes) → l ≤ 7 → reading.signed read o p ≡ Some found → Operand l (Infix o ∷ p) found
    unfolding reading.signed
    signed l operator.Minus p found le h =
        let a = between_steps (read 8 p) (λ y. Some (expr.Minus y.0, y.1)) found h in
        let g = sound 8 p a.found (omega arith) a.is in
        subst (Operand l (Infix operator.Minus ∷ p)) (some_injective a.goes) (record {
          made = 7;
          high = le;
          spelled = spell.negative 7 a.found.0 p a.found.1 (le_refl 7) g.spelled;
          fits = fitting 7 (omega arith) a.found.1 g.ends;
        })
    signed l operator.Plus p found le h =
        let a = between_steps (read 8 p) (λ y. Some (expr.Plus y.0, y.1)) found h in
        let g = sound 8 p a.found (omega arith) a.is in
        subst (Operand l (Infix operator.Plus ∷ p)) (some_injective a.goes) (record {
          made = 7;
          high = le;
          spelled = spell.positive 7 a.found.0 p a.found.1 (le_refl 7) g.spelled;
          fits = fitting 7 (omega arith) a.found.1 g.ends;
        })
    signed l other p found le h = absurd (none≢some h)

    signed_by : (l : ℕ) (o : BinaryOp) (p : Lexemes) (found : Expr × Lexemes) (test : Bool) → nat_le l 7 ≡ test
        → (if test then reading.signed read o p else None) ≡ Some found → Operand l (Infix o ∷ p) found
    signed_by l o p found true t h = signed l o p found (leb-true l 7 t) h
    signed_by l o p found false t h = absurd (none≢some h)

    negated : (l : ℕ) (p : Lexemes) (found : Expr × Lexemes) (test : Bool) → nat_le l 4 ≡ test
        → (if test then reading.negated read p else None) ≡ Some found → Operand l (Negation ∷ p) found
    unfolding reading.negated
    negated l p found true t h =
        let a = between_steps (read 5 p) (λ y. Some (expr.Not y.0, y.1)) found h in
        let g = sound 5 p a.found (omega arith) a.is in
        subst (Operand l (Negation ∷ p)) (some_injective a.goes) (record {
          made = 4;
          high = leb-true l 4 t;
          spelled = spell.negated 4 a.found.0 p a.found.1 (le_refl 4) g.spelled;
          fits = fitting 4 (omega arith) a.found.1 g.ends;
        })
    negated l p found false t h = absurd (none≢some h)

    alone : (l : ℕ) (p : Lexemes) (found : Expr × Lexemes) → l ≤ 10 → reading.primary read go p ≡ Some found → Operand l p found
    alone l p found le h = record { made = 10; high = le; spelled = primary p found h; fits = λ o more e. left-small o }

    pub operand : (l : ℕ) (p : Lexemes) (found : Expr × Lexemes) → l ≤ 10 → reading.operand read go l p ≡ Some found → Operand l p found
    unfolding reading.operand
    operand l (Infix o ∷ more) found le h = signed_by l o more found (nat_le l 7) refl h
    operand l (Negation ∷ more) found le h = negated l more found (nat_le l 4) refl h
    operand l other found le h = alone l other found le h

-- what goes on behind an operand
abbrev SoundOnwards : (ℕ → Expr → Lexemes → Option (Expr × Lexemes)) → Type 0
SoundOnwards go = (l made : ℕ) (a : Expr) (p q : Lexemes) (found : Expr × Lexemes) → l ≤ 10 → l ≤ made → SpellsExpr made a p q
    → ((o : BinaryOp) (more : Lexemes) → q ≡ Infix o ∷ more → left o ≤ made) → go l a q ≡ Some found → Given l p found

module _ (read : Levels) (sound : SoundLevels read) (go : ℕ → Expr → Lexemes → Option (Expr × Lexemes)) (goes : SoundOnwards go) where
  onward : (l made : ℕ) (a : Expr) (p q : Lexemes) (found : Expr × Lexemes) (at : Option (BinaryOp × Lexemes)) → operator_at l q ≡ at → l ≤ 10 → l ≤ made → SpellsExpr made a p q
      → ((o : BinaryOp) (more : Lexemes) → q ≡ Infix o ∷ more → left o ≤ made) → reading.onward read (go l) a q at ≡ Some found → Given l p found
  unfolding reading.onward reading.joined
  onward l made a p q found None t small high s fits h =
      subst (Given l p) (some_injective h) (record { spelled = lowered l made a p q s high; ends = t })
  onward l made a p q found (Some f) t small high s fits h =
      let at = operator-is l q f t in
      let b = between_steps (read (right f.0) f.1) (λ y. go l (expr.Binary f.0 a y.0) y.1) found h in
      let g = sound (right f.0) f.1 b.found (right-small f.0) b.is in
      let first : SpellsExpr (left f.0) a p (Infix f.0 ∷ f.1) =
      subst (SpellsExpr (left f.0) a p) at.is (lowered (left f.0) made a p q s (fits f.0 f.1 at.is)) in
      goes l (level f.0) (expr.Binary f.0 a b.found.0) p b.found.1 found small at.high
      (spell.between (level f.0) f.0 a b.found.0 p f.1 b.found.1 (le_refl (level f.0)) first g.spelled)
      (λ o more e. behind_made f.0 o (operator-low (right f.0) o more (subst (λ (r : Lexemes). operator_at (right f.0) r ≡ None) e g.ends)))
      b.goes

module _ (read : Levels) (sound : SoundLevels read) (go : Going) (goes : SoundGoing go) where
  further : (found : List Expr) (p : Lexemes) (all : List Expr × Lexemes) → reading.further read go found p ≡ Some all → Added found p all
  unfolding reading.further
  further found p all h =
      let a = between_steps (behind_comma p) (λ rest. read 1 rest >>= (λ y. go (found ++ (y.0 ∷ [])) y.1)) all h in
      let b = between_steps (read 1 a.found) (λ y. go (found ++ (y.0 ∷ [])) y.1) all a.goes in
      let g = sound 1 a.found b.found one_level b.is in
      let c = goes (found ++ (b.found.0 ∷ [])) b.found.1 all b.goes in
      record {
        more = b.found.0 ∷ c.more;
        is = c.is ∙ append_assoc found (b.found.0 ∷ []) c.more;
        spelled = λ e q s. spell.one_argument e (b.found.0 ∷ c.more) q a.found all.1 (subst (SpellsExpr 1 e q) (comma-is p a.found a.is) s) (c.spelled b.found.0 a.found g.spelled);
      }

  arguments_by : (found : List Expr) (p : Lexemes) (all : List Expr × Lexemes) (behind : Option Lexemes) → behind_close p ≡ behind
      → reading.arguments_by read go found p behind ≡ Some all → Added found p all
  unfolding reading.arguments_by
  arguments_by found p all (Some rest) t h =
      subst (Added found p) (some_injective h) (record {
        more = [];
        is = sym (append-nil found);
        spelled = λ e q s. spell.last_argument e q rest (subst (SpellsExpr 1 e q) (close-is p rest t) s);
      })
  arguments_by found p all None t h = further found p all h

mutual
  unfolding reading.read

  pub read_sound : (fuel : ℕ) → SoundLevels (reading.read fuel)
  read_sound zero l p found small h = absurd (none≢some h)
  read_sound (suc fuel) l p found small h =
      let a = between_steps (reading.operand (reading.read fuel) (reading.arguments fuel) l p) (λ y. reading.onwards fuel l y.0 y.1) found h in
      let first = operand (reading.read fuel) (read_sound fuel) (reading.arguments fuel) (arguments_sound fuel) l p a.found small a.is in
      onwards_sound fuel l first.made a.found.0 p a.found.1 found small first.high first.spelled first.fits a.goes

  onwards_sound : (fuel : ℕ) → SoundOnwards (reading.onwards fuel)
  onwards_sound zero l made a p q found small high s fits h = absurd (none≢some h)
  onwards_sound (suc fuel) l made a p q found small high s fits h =
      onward (reading.read fuel) (read_sound fuel) (reading.onwards fuel) (onwards_sound fuel) l made a p q found (operator_at l q) refl small high s fits h

  pub arguments_sound : (fuel : ℕ) → SoundGoing (reading.arguments fuel)
  arguments_sound zero found p all h = absurd (none≢some h)
  arguments_sound (suc fuel) found p all h =
      arguments_by (reading.read fuel) (read_sound fuel) (reading.arguments fuel) (arguments_sound fuel) found p all (behind_close p) refl h

-- what the two public readers give is spelled
pub expression_sound : (e : Expr) (p q : Lexemes) → reading.read_expression p ≡ Some (e, q) → SpellsExpr 1 e p q
unfolding reading.read_expression
expression_sound e p q h = (read_sound (length p + 1) 1 p (e, q) one_level h).spelled

place_by : (read : Levels) → SoundLevels read → (go : Going) → SoundGoing go → (p : Lexemes) (found : Expr × Lexemes) → reading.place read go p ≡ Some found → SpellsPlace found.0 p found.1
unfolding reading.place
place_by read sound go goes (Name x ∷ more) found h = named read sound go goes x more found h
place_by read sound go goes other found h = absurd (none≢some h)

pub place_sound : (e : Expr) (p q : Lexemes) → reading.read_place p ≡ Some (e, q) → SpellsPlace e p q
unfolding reading.read_place
place_sound e p q h =
    place_by (reading.read (length p)) (read_sound (length p)) (reading.arguments (length p)) (arguments_sound (length p)) p (e, q) h
