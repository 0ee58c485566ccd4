-- What stands in an expression's pieces and what it begins with: for the forms that expressions are parts of.
use Rattle.std.proofs.Common.{◌≡◌, refl, sym, ap, subst, ◌∙◌, ℕ, suc, ◌≤◌, Bool, true, false, true≢false, List, [], ◌∷◌, ◌++◌, append_assoc, length, Option, arith}
use Rattle.fortran_grammar.specs.f_tree.declared.expressions.BinaryOp.{BinaryOp}
use Rattle.fortran_grammar.specs.f_tree.declared.expressions.BinaryOp.TheVariants as operator
use Rattle.fortran_grammar.specs.f_tree.declared.expressions.Expr.{Expr}
use Rattle.fortran_grammar.specs.f_tree.declared.expressions.Expr as expr
use Rattle.fortran_grammar.specs.fortran_lexemes.Lexemes.{Lexeme, Lexemes, Name, Number, Quoted, Infix, Negation, Truth, Mark}
use Rattle.fortran_grammar.specs.fortran_lexemes.declared.signs.Sign.TheVariants as sign
use Rattle.fortran_grammar.specs.ExpressionSpelling as spell
use Rattle.fortran_grammar.specs.ExpressionSpelling.{level, left, right, SpellsExpr, SpellsPlace, SpellsArguments, SpellsBounds, SpellsLast}
use Rattle.grammar_laws.specs.Exactness.{stops}
use Rattle.grammar_laws.specs.ExpressionScans.{may_stand, Passes, ended, passed, nested, begins_expression, equals_ahead}
use Rattle.grammar_laws.proofs.ExpressionComplete.{expression_shorter}

heads : (a : Lexeme) (p : Lexemes) (b : Lexeme) (q : Lexemes) → (a ∷ p) ≡ (b ∷ q) → a ≡ b
heads a p b q e = cc

tails : (a : Lexeme) (p : Lexemes) (b : Lexeme) (q : Lexemes) → (a ∷ p) ≡ (b ∷ q) → p ≡ q
tails a p b q e = cc

-- one way and then another
pub passes_on : (within : Bool) (p q r : Lexemes) → Passes within p q → Passes within q r → Passes within p r
passes_on _ _ _ r (ended within q) t = t
passes_on _ _ _ r (passed within piece p q h s) t = passed within piece p r h (passes_on within p q r s t)
passes_on _ _ _ r (nested within p m q s u) t = nested within p m r s (passes_on within m q r u t)

-- what may stand outside parentheses may stand within
may_within : (within : Bool) (piece : Lexeme) → may_stand within piece ≡ true → may_stand true piece ≡ true
unfolding may_stand
may_within within (Name x) h = refl
may_within within (Number digits value) h = refl
may_within within (Quoted characters) h = refl
may_within within (Infix o) h = refl
may_within within Negation h = refl
may_within within (Truth b) h = refl
may_within within (Mark sign.Comma) h = refl
may_within within (Mark sign.Colon) h = refl
may_within within other h = absurd (true≢false (sym h))

pub passes_within : (within : Bool) (p q : Lexemes) → Passes within p q → Passes true p q
passes_within _ _ _ (ended within q) = ended true q
passes_within _ _ _ (passed within piece p q h s) = passed true piece p q (may_within within piece h) (passes_within within p q s)
passes_within _ _ _ (nested within p m q s u) = nested true p m q s (passes_within within m q u)

-- the pieces that were passed stand before those that are left
pub record Front (p q : Lexemes) : Type 0 where
  pub front : Lexemes
  pub is : p ≡ front ++ q

front_more : (piece : Lexeme) (p q : Lexemes) → Front p q → Front (piece ∷ p) q
front_more piece p q f = record { front = piece ∷ f.front; is = ap (λ r. piece ∷ r) f.is }

front_on : (p m q : Lexemes) → Front p m → Front m q → Front p q
front_on p m q f g = record { front = f.front ++ g.front; is = f.is ∙ ap (λ r. f.front ++ r) g.is ∙ sym (append_assoc f.front g.front q) }

pub passed_front : (within : Bool) (p q : Lexemes) → Passes within p q → Front p q
passed_front _ _ _ (ended within q) = record { front = []; is = refl }
passed_front _ _ _ (passed within piece p q h s) = front_more piece p q (passed_front within p q s)
passed_front _ _ _ (nested within p m q s u) =
    front_more (Mark sign.Open) p q (front_on p (Mark sign.Close ∷ m) q (passed_front true p (Mark sign.Close ∷ m) s)
    (front_more (Mark sign.Close) m q (passed_front within m q u)))

-- A name and its parentheses.
applied : (within : Bool) (x : List ℕ) (p q : Lexemes) → Passes true p (Mark sign.Close ∷ q) → Passes within (Name x ∷ Mark sign.Open ∷ p) q
unfolding may_stand
applied within x p q s = passed within (Name x) (Mark sign.Open ∷ p) q refl (nested within p q q s (ended within q))

comma_on : (p m q : Lexemes) → Passes true p (Mark sign.Comma ∷ m) → Passes true m q → Passes true p q
unfolding may_stand
comma_on p m q s t = passes_on true p (Mark sign.Comma ∷ m) q s (passed true (Mark sign.Comma) m q refl t)

colon_on : (p m q : Lexemes) → Passes true p (Mark sign.Colon ∷ m) → Passes true m q → Passes true p q
unfolding may_stand
colon_on p m q s t = passes_on true p (Mark sign.Colon ∷ m) q s (passed true (Mark sign.Colon) m q refl t)

-- Parentheses match in the pieces of an expression, and outside them stands no mark.
mutual
  unfolding may_stand

  pub expression_passes : (l : ℕ) (e : Expr) (p q : Lexemes) → SpellsExpr l e p q → Passes false p q
  expression_passes _ _ _ _ (spell.number l digits value q h small) = passed false (Number digits value) q q refl (ended false q)
  expression_passes _ _ _ _ (spell.text l characters q h) = passed false (Quoted characters) q q refl (ended false q)
  expression_passes _ _ _ _ (spell.truth l b q h) = passed false (Truth b) q q refl (ended false q)
  expression_passes _ _ _ _ (spell.place l e p q h s) = place_passes e p q s
  expression_passes _ _ _ _ (spell.call l x q h) = applied false x (Mark sign.Close ∷ q) q (ended true (Mark sign.Close ∷ q))
  expression_passes _ _ _ _ (spell.parenthesised l e p q h s) =
      nested false p q q (passes_within false p (Mark sign.Close ∷ q) (expression_passes 1 e p (Mark sign.Close ∷ q) s)) (ended false q)
  expression_passes _ _ _ _ (spell.negative l e p q h s) = passed false (Infix operator.Minus) p q refl (expression_passes 8 e p q s)
  expression_passes _ _ _ _ (spell.positive l e p q h s) = passed false (Infix operator.Plus) p q refl (expression_passes 8 e p q s)
  expression_passes _ _ _ _ (spell.negated l e p q h s) = passed false Negation p q refl (expression_passes 5 e p q s)
  expression_passes _ _ _ _ (spell.between l o a b p m q h s t) =
      passes_on false p (Infix o ∷ m) q (expression_passes (left o) a p (Infix o ∷ m) s) (passed false (Infix o) m q refl (expression_passes (right o) b m q t))

  pub place_passes : (e : Expr) (p q : Lexemes) → SpellsPlace e p q → Passes false p q
  place_passes _ _ _ (spell.name x q) = passed false (Name x) q q refl (ended false q)
  place_passes _ _ _ (spell.element x es p q s) = applied false x p q (arguments_pass es p q s)
  place_passes _ _ _ (spell.part_of_variable x f l p q s) = applied false x p q (bounds_pass f l p q s)
  place_passes _ _ _ (spell.part_of_element x es f l p m q s t) =
      passes_on false (Name x ∷ Mark sign.Open ∷ p) (Mark sign.Open ∷ m) q (applied false x p (Mark sign.Open ∷ m) (arguments_pass es p (Mark sign.Open ∷ m) s))
      (nested false m q q (bounds_pass f l m q t) (ended false q))

  pub arguments_pass : (es : List Expr) (p q : Lexemes) → SpellsArguments es p q → Passes true p (Mark sign.Close ∷ q)
  arguments_pass _ _ _ (spell.last_argument e p q s) = passes_within false p (Mark sign.Close ∷ q) (expression_passes 1 e p (Mark sign.Close ∷ q) s)
  arguments_pass _ _ _ (spell.one_argument e es p m q s t) =
      comma_on p m (Mark sign.Close ∷ q) (passes_within false p (Mark sign.Comma ∷ m) (expression_passes 1 e p (Mark sign.Comma ∷ m) s)) (arguments_pass es m q t)

  pub bounds_pass : (f l : Option Expr) (p q : Lexemes) → SpellsBounds f l p q → Passes true p (Mark sign.Close ∷ q)
  bounds_pass _ _ _ _ (spell.from_first l p q s) = passed true (Mark sign.Colon) p (Mark sign.Close ∷ q) refl (last_passes l p q s)
  bounds_pass _ _ _ _ (spell.from_place e l p m q s t) =
      colon_on p m (Mark sign.Close ∷ q) (passes_within false p (Mark sign.Colon ∷ m) (expression_passes 1 e p (Mark sign.Colon ∷ m) s)) (last_passes l m q t)

  pub last_passes : (l : Option Expr) (p q : Lexemes) → SpellsLast l p q → Passes true p (Mark sign.Close ∷ q)
  last_passes _ _ _ (spell.to_last q) = ended true (Mark sign.Close ∷ q)
  last_passes _ _ _ (spell.to_place e p q s) = passes_within false p (Mark sign.Close ∷ q) (expression_passes 1 e p (Mark sign.Close ∷ q) s)

-- The scan for `=` goes past an expression.
piece_scanned : (within : Bool) (piece : Lexeme) (depth : ℕ) (more : Lexemes) → may_stand within piece ≡ true → equals_ahead depth (piece ∷ more) ≡ equals_ahead depth more
unfolding may_stand equals_ahead
piece_scanned within (Name x) depth more h = refl
piece_scanned within (Number digits value) depth more h = refl
piece_scanned within (Quoted characters) depth more h = refl
piece_scanned within (Infix o) depth more h = refl
piece_scanned within Negation depth more h = refl
piece_scanned within (Truth b) depth more h = refl
piece_scanned within (Mark sign.Comma) depth more h = refl
piece_scanned within (Mark sign.Colon) depth more h = refl
piece_scanned within other depth more h = absurd (true≢false (sym h))

pub scanned : (within : Bool) (p q : Lexemes) → Passes within p q → (depth : ℕ) → equals_ahead depth p ≡ equals_ahead depth q
unfolding equals_ahead
scanned _ _ _ (ended within q) depth = refl
scanned _ _ _ (passed within piece p q h s) depth = piece_scanned within piece depth p h ∙ scanned within p q s depth
scanned _ _ _ (nested within p m q s u) depth = scanned true p (Mark sign.Close ∷ m) s (suc depth) ∙ scanned within m q u depth

pub expression_scanned : (l : ℕ) (e : Expr) (p q : Lexemes) → SpellsExpr l e p q → (depth : ℕ) → equals_ahead depth p ≡ equals_ahead depth q
expression_scanned l e p q s depth = scanned false p q (expression_passes l e p q s) depth

-- Behind a parenthesis that begins an expression no `=` stands before the one that closes it.
no_loop_by : (pieces q : Lexemes) → Passes false pieces q → (p : Lexemes) → pieces ≡ Mark sign.Open ∷ p → suc (length q) ≤ length pieces → equals_ahead 0 p ≡ false
unfolding may_stand equals_ahead
no_loop_by _ _ (ended within q) p e h = absurd (omega arith)
no_loop_by _ _ (passed within piece r q may s) p e h =
    absurd (true≢false (sym may ∙ ap (λ (x : Lexeme). may_stand false x) (heads piece r (Mark sign.Open) p e)))
no_loop_by _ _ (nested within r m q s u) p e h =
    subst (λ (x : Lexemes). equals_ahead 0 x ≡ false) (tails (Mark sign.Open) r (Mark sign.Open) p e) (scanned true r (Mark sign.Close ∷ m) s 0)

pub no_loop : (l : ℕ) (e : Expr) (p q : Lexemes) → SpellsExpr l e (Mark sign.Open ∷ p) q → equals_ahead 0 p ≡ false
no_loop l e p q s = no_loop_by (Mark sign.Open ∷ p) q (expression_passes l e (Mark sign.Open ∷ p) q s) p refl (expression_shorter l e (Mark sign.Open ∷ p) q s)

-- What an expression begins with.
place_begins : (e : Expr) (p q : Lexemes) → SpellsPlace e p q → begins_expression p ≡ true
unfolding begins_expression
place_begins _ _ _ (spell.name x after) = refl
place_begins _ _ _ (spell.element x es inner after s) = refl
place_begins _ _ _ (spell.part_of_variable x f l inner after s) = refl
place_begins _ _ _ (spell.part_of_element x es f l inner behind after s t) = refl

pub expression_begins_so : (l : ℕ) (e : Expr) (p q : Lexemes) → SpellsExpr l e p q → begins_expression p ≡ true
unfolding begins_expression
expression_begins_so _ _ _ _ (spell.number l digits value q h small) = refl
expression_begins_so _ _ _ _ (spell.text l characters q h) = refl
expression_begins_so _ _ _ _ (spell.truth l b q h) = refl
expression_begins_so _ _ _ _ (spell.place l e p q h s) = place_begins e p q s
expression_begins_so _ _ _ _ (spell.call l x q h) = refl
expression_begins_so _ _ _ _ (spell.parenthesised l e p q h s) = refl
expression_begins_so _ _ _ _ (spell.negative l e p q h s) = refl
expression_begins_so _ _ _ _ (spell.positive l e p q h s) = refl
expression_begins_so _ _ _ _ (spell.negated l e p q h s) = refl
expression_begins_so _ _ _ _ (spell.between l o a b p m q h s t) = expression_begins_so (left o) a p (Infix o ∷ m) s

-- A name that no operator and no parenthesis follows is an expression by itself, and it ends there.
pub record IsNameAlone (x : List ℕ) (behind : Lexemes) (e : Expr) (q : Lexemes) : Type 0 where
  pub named : e ≡ expr.Name x
  pub left_over : q ≡ behind

not_open_behind : {A : Type 0} (p inner : Lexemes) → stops p ≡ true → p ≡ Mark sign.Open ∷ inner → A
unfolding stops
not_open_behind p inner follows e = absurd (true≢false (sym follows ∙ ap stops e))

not_infix_behind : {A : Type 0} (p more : Lexemes) (o : BinaryOp) → stops p ≡ true → p ≡ Infix o ∷ more → A
unfolding stops
not_infix_behind p more o follows e = absurd (true≢false (sym follows ∙ ap stops e))

-- the piece that a form begins with is the name
abbrev names_first : Lexeme → Bool
names_first (Name x) = true
names_first other = false

not_name : {A : Type 0} (piece : Lexeme) (p : Lexemes) (x : List ℕ) (q : Lexemes) → names_first piece ≡ false → (piece ∷ p) ≡ (Name x ∷ q) → A
not_name piece p x q other e = absurd (true≢false (sym (ap names_first (heads piece p (Name x) q e)) ∙ other))

name_of : (x y : List ℕ) → Name x ≡ Name y → x ≡ y
name_of x y e = cc

place_alone : (e : Expr) (p q : Lexemes) → SpellsPlace e p q → (x : List ℕ) (behind : Lexemes) → stops behind ≡ true → p ≡ Name x ∷ behind → IsNameAlone x behind e q
place_alone _ _ _ (spell.name y q) x behind follows h = record {
  named = ap (λ (z : List ℕ). expr.Name z) (name_of y x (heads (Name y) q (Name x) behind h));
  left_over = tails (Name y) q (Name x) behind h;
}
place_alone _ _ _ (spell.element y es p q s) x behind follows h = not_open_behind behind p follows (sym (tails (Name y) (Mark sign.Open ∷ p) (Name x) behind h))
place_alone _ _ _ (spell.part_of_variable y f l p q s) x behind follows h = not_open_behind behind p follows (sym (tails (Name y) (Mark sign.Open ∷ p) (Name x) behind h))
place_alone _ _ _ (spell.part_of_element y es f l p m q s t) x behind follows h =
    not_open_behind behind p follows (sym (tails (Name y) (Mark sign.Open ∷ p) (Name x) behind h))

pub name_alone : (l : ℕ) (e : Expr) (p q : Lexemes) → SpellsExpr l e p q → (x : List ℕ) (behind : Lexemes) → stops behind ≡ true → p ≡ Name x ∷ behind → IsNameAlone x behind e q
name_alone _ _ _ _ (spell.number l digits value q n small) x behind follows h = not_name (Number digits value) q x behind refl h
name_alone _ _ _ _ (spell.text l characters q n) x behind follows h = not_name (Quoted characters) q x behind refl h
name_alone _ _ _ _ (spell.truth l b q n) x behind follows h = not_name (Truth b) q x behind refl h
name_alone _ _ _ _ (spell.place l e p q n s) x behind follows h = place_alone e p q s x behind follows h
name_alone _ _ _ _ (spell.call l y q n) x behind follows h =
    not_open_behind behind (Mark sign.Close ∷ q) follows (sym (tails (Name y) (Mark sign.Open ∷ Mark sign.Close ∷ q) (Name x) behind h))
name_alone _ _ _ _ (spell.parenthesised l e p q n s) x behind follows h = not_name (Mark sign.Open) p x behind refl h
name_alone _ _ _ _ (spell.negative l e p q n s) x behind follows h = not_name (Infix operator.Minus) p x behind refl h
name_alone _ _ _ _ (spell.positive l e p q n s) x behind follows h = not_name (Infix operator.Plus) p x behind refl h
name_alone _ _ _ _ (spell.negated l e p q n s) x behind follows h = not_name Negation p x behind refl h
name_alone _ _ _ _ (spell.between l o a b p m q n s t) x behind follows h =
    not_infix_behind behind m o follows (sym (name_alone (left o) a p (Infix o ∷ m) s x behind follows h).left_over)
