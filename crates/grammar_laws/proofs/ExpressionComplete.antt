-- The reader of expressions gives what is spelled, where what follows does not go on.
use Rattle.std.proofs.Common.{◌≡◌, refl, ap, ◌∙◌, ℕ, suc, ◌≤◌, le-leb, pos, Bool, List, [], ◌∷◌, ◌++◌, append_assoc, length, Option, Some, None, if◌then◌else◌, le_trans, le_refl, arith}
use Rattle.fortran_grammar.specs.f_tree.declared.expressions.BinaryOp.{BinaryOp}
use Rattle.fortran_grammar.specs.f_tree.declared.expressions.BinaryOp.TheVariants as operator
use Rattle.fortran_grammar.specs.f_tree.declared.expressions.Expr.{Expr}
use Rattle.fortran_grammar.specs.f_tree.declared.expressions.Expr as expr
use Rattle.fortran_grammar.specs.fortran_lexemes.Lexemes.{Lexemes, Name, Number, Quoted, Infix, Negation, Truth, Mark}
use Rattle.fortran_grammar.specs.fortran_lexemes.declared.signs.Sign.TheVariants as sign
use Rattle.fortran_grammar.specs.ExpressionSpelling as spell
use Rattle.fortran_grammar.specs.ExpressionSpelling.{level, left, right, SpellsExpr, SpellsPlace, SpellsArguments, SpellsBounds, SpellsLast}
use Rattle.grammar_laws.specs.ExpressionReading as reading
use Rattle.grammar_laws.specs.ExpressionReading.{◌>>=◌, Levels, Going, read, onwards, arguments, behind_open, behind_close, behind_comma, behind_colon, operator_at}
use Rattle.grammar_laws.proofs.ExpressionFacts.{step_to, from_suc, level-left, level-right, behind_right, tight, no_operator, operator-none, operator-high, not_open}

-- each takes a piece at least
mutual
  pub expression_shorter : (l : ℕ) (e : Expr) (p q : Lexemes) → SpellsExpr l e p q → suc (length q) ≤ length p
  expression_shorter _ _ _ _ (spell.number l digits value after h small) = le_refl _
  expression_shorter _ _ _ _ (spell.text l characters after h) = le_refl _
  expression_shorter _ _ _ _ (spell.truth l b after h) = le_refl _
  expression_shorter _ _ _ _ (spell.place l e p q h s) = place_shorter e p q s
  expression_shorter _ _ _ _ (spell.call l name after h) = omega arith
  expression_shorter _ _ _ _ (spell.parenthesised l e inner after h s) =
      let a : suc (suc (length after)) ≤ length inner = expression_shorter 1 e inner (Mark sign.Close ∷ after) s in omega arith
  expression_shorter _ _ _ _ (spell.negative l e inner after h s) = let a = expression_shorter 8 e inner after s in omega arith
  expression_shorter _ _ _ _ (spell.positive l e inner after h s) = let a = expression_shorter 8 e inner after s in omega arith
  expression_shorter _ _ _ _ (spell.negated l e inner after h s) = let a = expression_shorter 5 e inner after s in omega arith
  expression_shorter _ _ _ _ (spell.between l o a b p m q h s t) =
      let x : suc (suc (length m)) ≤ length p = expression_shorter (left o) a p (Infix o ∷ m) s in
      let y = expression_shorter (right o) b m q t in omega arith

  pub place_shorter : (e : Expr) (p q : Lexemes) → SpellsPlace e p q → suc (length q) ≤ length p
  place_shorter _ _ _ (spell.name x after) = le_refl _
  place_shorter _ _ _ (spell.element x es inner after s) = let a = arguments_shorter es inner after s in omega arith
  place_shorter _ _ _ (spell.part_of_variable x f l inner after s) = let a = bounds_shorter f l inner after s in omega arith
  place_shorter _ _ _ (spell.part_of_element x es f l inner behind after s t) =
      let a : suc (suc (length behind)) ≤ length inner = arguments_shorter es inner (Mark sign.Open ∷ behind) s in
      let b = bounds_shorter f l behind after t in omega arith

  pub arguments_shorter : (es : List Expr) (p q : Lexemes) → SpellsArguments es p q → suc (length q) ≤ length p
  arguments_shorter _ _ _ (spell.last_argument e p q s) =
      let a : suc (suc (length q)) ≤ length p = expression_shorter 1 e p (Mark sign.Close ∷ q) s in omega arith
  arguments_shorter _ _ _ (spell.one_argument e es p behind q s t) =
      let a : suc (suc (length behind)) ≤ length p = expression_shorter 1 e p (Mark sign.Comma ∷ behind) s in
      let b = arguments_shorter es behind q t in omega arith

  pub bounds_shorter : (f l : Option Expr) (p q : Lexemes) → SpellsBounds f l p q → suc (length q) ≤ length p
  bounds_shorter _ _ _ _ (spell.from_first l inner q s) = let a = last_shorter l inner q s in omega arith
  bounds_shorter _ _ _ _ (spell.from_place e l p inner q s t) =
      let a : suc (suc (length inner)) ≤ length p = expression_shorter 1 e p (Mark sign.Colon ∷ inner) s in
      let b = last_shorter l inner q t in omega arith

  pub last_shorter : (l : Option Expr) (p q : Lexemes) → SpellsLast l p q → suc (length q) ≤ length p
  last_shorter _ _ _ (spell.to_last q) = le_refl _
  last_shorter _ _ _ (spell.to_place e p q s) =
      let a : suc (suc (length q)) ≤ length p = expression_shorter 1 e p (Mark sign.Close ∷ q) s in omega arith

-- what an expression begins with is neither `)` nor `:`
pub record Begins (p : Lexemes) : Type 0 where
  pub no_close : behind_close p ≡ None
  pub no_colon : behind_colon p ≡ None

place_begins : (e : Expr) (p q : Lexemes) → SpellsPlace e p q → Begins p
unfolding behind_close behind_colon
place_begins _ _ _ (spell.name x after) = record { no_close = refl; no_colon = refl }
place_begins _ _ _ (spell.element x es inner after s) = record { no_close = refl; no_colon = refl }
place_begins _ _ _ (spell.part_of_variable x f l inner after s) = record { no_close = refl; no_colon = refl }
place_begins _ _ _ (spell.part_of_element x es f l inner behind after s t) = record { no_close = refl; no_colon = refl }

pub expression_begins : (l : ℕ) (e : Expr) (p q : Lexemes) → SpellsExpr l e p q → Begins p
unfolding behind_close behind_colon
expression_begins _ _ _ _ (spell.number l digits value after h small) = record { no_close = refl; no_colon = refl }
expression_begins _ _ _ _ (spell.text l characters after h) = record { no_close = refl; no_colon = refl }
expression_begins _ _ _ _ (spell.truth l b after h) = record { no_close = refl; no_colon = refl }
expression_begins _ _ _ _ (spell.place l e p q h s) = place_begins e p q s
expression_begins _ _ _ _ (spell.call l name after h) = record { no_close = refl; no_colon = refl }
expression_begins _ _ _ _ (spell.parenthesised l e inner after h s) = record { no_close = refl; no_colon = refl }
expression_begins _ _ _ _ (spell.negative l e inner after h s) = record { no_close = refl; no_colon = refl }
expression_begins _ _ _ _ (spell.positive l e inner after h s) = record { no_close = refl; no_colon = refl }
expression_begins _ _ _ _ (spell.negated l e inner after h s) = record { no_close = refl; no_colon = refl }
expression_begins _ _ _ _ (spell.between l o a b p m q h s t) = expression_begins (left o) a p (Infix o ∷ m) s

arguments_begin : (es : List Expr) (p q : Lexemes) → SpellsArguments es p q → Begins p
arguments_begin _ _ _ (spell.last_argument e p q s) = expression_begins 1 e p (Mark sign.Close ∷ q) s
arguments_begin _ _ _ (spell.one_argument e es p behind q s t) = expression_begins 1 e p (Mark sign.Comma ∷ behind) s

bounds_begin : (f l : Option Expr) (p q : Lexemes) → SpellsBounds f l p q → behind_close p ≡ None
unfolding behind_close
bounds_begin _ _ _ _ (spell.from_first l inner q s) = refl
bounds_begin _ _ _ _ (spell.from_place e l p inner q s t) = (expression_begins 1 e p (Mark sign.Colon ∷ inner) s).no_close

-- a reading at a level comes to the expression, and goes on behind it
abbrev pub Reaches : ℕ → Expr → Lexemes → Lexemes → Type 0
Reaches l e p q = (wanted fuel : ℕ) (result : Option (Expr × Lexemes)) → wanted ≤ l → tight q ≤ l → suc (length p) ≤ fuel
    → ((m : ℕ) → suc (length q) ≤ m → onwards m wanted e q ≡ result) → read fuel wanted p ≡ result

-- nothing goes on where no operator of the level stands
stays : (fuel l : ℕ) (e : Expr) (q : Lexemes) → operator_at l q ≡ None → onwards (suc fuel) l e q ≡ Some (e, q)
unfolding onwards reading.onward
stays fuel l e q h = ap (λ at. reading.onward (read fuel) (onwards fuel l) e q at) h

pub settled : (l : ℕ) (e : Expr) (p q : Lexemes) → Reaches l e p q → (fuel : ℕ) → suc (length p) ≤ fuel → tight q ≤ l → operator_at l q ≡ None → read fuel l p ≡ Some (e, q)
settled l e p q reaches fuel h t n =
    reaches l fuel (Some (e, q)) (le_refl l) t h (λ m k. from_suc (λ (f : ℕ). onwards f l e q ≡ Some (e, q)) (length q) (λ f g. stays f l e q n) m k)

-- before a mark an expression of level 1 is read
before_close : (e : Expr) (p q : Lexemes) → Reaches 1 e p (Mark sign.Close ∷ q) → (fuel : ℕ) → suc (length p) ≤ fuel → read fuel 1 p ≡ Some (e, Mark sign.Close ∷ q)
unfolding tight operator_at
before_close e p q reaches fuel h = settled 1 e p (Mark sign.Close ∷ q) reaches fuel h (omega arith) refl

before_comma : (e : Expr) (p q : Lexemes) → Reaches 1 e p (Mark sign.Comma ∷ q) → (fuel : ℕ) → suc (length p) ≤ fuel → read fuel 1 p ≡ Some (e, Mark sign.Comma ∷ q)
unfolding tight operator_at
before_comma e p q reaches fuel h = settled 1 e p (Mark sign.Comma ∷ q) reaches fuel h (omega arith) refl

before_colon : (e : Expr) (p q : Lexemes) → Reaches 1 e p (Mark sign.Colon ∷ q) → (fuel : ℕ) → suc (length p) ≤ fuel → read fuel 1 p ≡ Some (e, Mark sign.Colon ∷ q)
unfolding tight operator_at
before_colon e p q reaches fuel h = settled 1 e p (Mark sign.Colon ∷ q) reaches fuel h (omega arith) refl

-- an operand was read
reaches_operand : (l : ℕ) (e : Expr) (p q : Lexemes) → suc (length q) ≤ length p
    → ((wanted m : ℕ) → wanted ≤ l → length p ≤ m → tight q ≤ l → reading.operand (read m) (arguments m) wanted p ≡ Some (e, q)) → Reaches l e p q
unfolding read
reaches_operand l e p q shorter reads wanted fuel result w t h next =
    from_suc (λ (f : ℕ). read f wanted p ≡ result) (length p)
    (λ m k. step_to (reading.operand (read m) (arguments m) wanted p) (λ y. onwards m wanted y.0 y.1) (e, q) (reads wanted m w k t) ∙ next m (le_trans shorter k))
    fuel h

sign_read : (wanted m : ℕ) (p : Lexemes) (o : BinaryOp) → wanted ≤ 7 → reading.operand (read m) (arguments m) wanted (Infix o ∷ p) ≡ reading.signed (read m) o p
unfolding reading.operand
sign_read wanted m p o h = ap (λ (t : Bool). if t then reading.signed (read m) o p else None) (le-leb wanted 7 h)

not_read : (wanted m : ℕ) (p : Lexemes) → wanted ≤ 4 → reading.operand (read m) (arguments m) wanted (Negation ∷ p) ≡ reading.negated (read m) p
unfolding reading.operand
not_read wanted m p h = ap (λ (t : Bool). if t then reading.negated (read m) p else None) (le-leb wanted 4 h)

-- a place is read where an operand is wanted, and where a place is
pub record ReadsPlace (m : ℕ) (e : Expr) (p q : Lexemes) : Type 0 where
  pub as_operand : (wanted : ℕ) → reading.operand (read m) (arguments m) wanted p ≡ Some (e, q)
  pub as_place : reading.place (read m) (arguments m) p ≡ Some (e, q)

from_name : (m : ℕ) (x : List ℕ) (e : Expr) (p q : Lexemes) → (behind_open p >>= behind_close) ≡ None → reading.named (read m) (arguments m) x p ≡ Some (e, q)
    → ReadsPlace m e (Name x ∷ p) q
unfolding reading.operand reading.primary reading.called reading.called_by reading.place
from_name m x e p q h r = record {
  as_operand = λ wanted. ap (λ behind. reading.called_by (read m) (arguments m) x p behind) h ∙ r;
  as_place = r;
}

-- the first of some arguments is read, and then the others
pub record ReadsArguments (m : ℕ) (found es : List Expr) (p q : Lexemes) : Type 0 where
  pub first : Expr
  pub rest : Lexemes
  pub is : read m 1 p ≡ Some (first, rest)
  pub no_colon : behind_colon rest ≡ None
  pub more : arguments m (found ++ (first ∷ [])) rest ≡ Some (found ++ es, q)

last_read : (m : ℕ) (found : List Expr) (q : Lexemes) → arguments (suc m) found (Mark sign.Close ∷ q) ≡ Some (found, q)
unfolding arguments reading.arguments_by behind_close
last_read m found q = refl

one_read : (m : ℕ) (found es : List Expr) (e : Expr) (p q : Lexemes) → ReadsArguments m (found ++ (e ∷ [])) es p q
    → arguments (suc m) (found ++ (e ∷ [])) (Mark sign.Comma ∷ p) ≡ Some (found ++ (e ∷ es), q)
unfolding arguments reading.arguments_by reading.further behind_close behind_comma
one_read m found es e p q r =
    step_to (read m 1 p) (λ y. arguments m ((found ++ (e ∷ [])) ++ (y.0 ∷ [])) y.1) (r.first, r.rest) r.is
    ∙ r.more ∙ ap (λ (all : List Expr). Some (all, q)) (append_assoc found (e ∷ []) es)

last_argument_read : (m : ℕ) (found : List Expr) (e : Expr) (p q : Lexemes) → suc (length p) ≤ m → Reaches 1 e p (Mark sign.Close ∷ q) → ReadsArguments m found (e ∷ []) p q
unfolding behind_colon
last_argument_read m found e p q h reaches = record {
  first = e;
  rest = Mark sign.Close ∷ q;
  is = before_close e p q reaches m h;
  no_colon = refl;
  more = from_suc (λ (f : ℕ). arguments f (found ++ (e ∷ [])) (Mark sign.Close ∷ q) ≡ Some (found ++ (e ∷ []), q)) (length p) (λ f k. last_read f (found ++ (e ∷ [])) q) m h;
}

one_argument_read : (m : ℕ) (found : List Expr) (e : Expr) (es : List Expr) (p behind q : Lexemes) → suc (length p) ≤ m → suc (suc (length behind)) ≤ length p
    → Reaches 1 e p (Mark sign.Comma ∷ behind) → ((f : ℕ) → suc (length behind) ≤ f → ReadsArguments f (found ++ (e ∷ [])) es behind q)
    → ReadsArguments m found (e ∷ es) p q
unfolding behind_colon
one_argument_read m found e es p behind q h shorter reaches others = record {
  first = e;
  rest = Mark sign.Comma ∷ behind;
  is = before_comma e p behind reaches m h;
  no_colon = refl;
  more = from_suc (λ (f : ℕ). arguments f (found ++ (e ∷ [])) (Mark sign.Comma ∷ behind) ≡ Some (found ++ (e ∷ es), q)) (length p)
      (λ f k. one_read f found es e behind q (others f (omega arith))) m h;
}

-- behind the parenthesis of an element or of a substring of it
from_arguments : (m : ℕ) (x : List ℕ) (es : List Expr) (e : Expr) (p middle q : Lexemes) → Begins p → ReadsArguments m [] es p middle
    → reading.element (read m) (expr.Apply x es) middle ≡ Some (e, q) → reading.named (read m) (arguments m) x (Mark sign.Open ∷ p) ≡ Some (e, q)
unfolding reading.named reading.named_by reading.subscripted reading.subscripted_by reading.applied reading.applied_by behind_open
from_arguments m x es e p middle q b r made =
    ap (λ behind. reading.subscripted_by (read m) (arguments m) x p behind) b.no_colon
    ∙ step_to (read m 1 p) (λ y. reading.applied (read m) (arguments m) x y.0 y.1) (r.first, r.rest) r.is
    ∙ ap (λ behind. reading.applied_by (read m) (arguments m) x r.first r.rest behind) r.no_colon
    ∙ step_to (arguments m (r.first ∷ []) r.rest) (λ y. reading.element (read m) (expr.Apply x y.0) y.1) (es, middle) r.more
    ∙ made

element_read : (m : ℕ) (e : Expr) (q : Lexemes) → tight q ≤ 10 → reading.element (read m) e q ≡ Some (e, q)
unfolding reading.element reading.element_by
element_read m e q t = ap (λ behind. reading.element_by (read m) e q behind) (not_open q t)

part_read : (m : ℕ) (e made : Expr) (p q : Lexemes) → reading.part_of (read m) e p ≡ Some (made, q) → reading.element (read m) e (Mark sign.Open ∷ p) ≡ Some (made, q)
unfolding reading.element reading.element_by behind_open
part_read m e made p q h = h

-- the places of a substring, behind an element and behind a name
pub record ReadsBounds (m : ℕ) (first last : Option Expr) (p q : Lexemes) : Type 0 where
  pub of_element : (base : Expr) → reading.part_of (read m) base p ≡ Some (expr.Part base first last, q)
  pub of_name : (x : List ℕ) → reading.named (read m) (arguments m) x (Mark sign.Open ∷ p) ≡ Some (expr.Part (expr.Name x) first last, q)

abbrev ReadsLast : ℕ → Option Expr → Lexemes → Lexemes → Type 0
ReadsLast m last p q = (base : Expr) (first : Option Expr) → reading.part (read m) base first p ≡ Some (expr.Part base first last, q)

bounds_from_first : (m : ℕ) (last : Option Expr) (p q : Lexemes) → ReadsLast m last p q → ReadsBounds m None last (Mark sign.Colon ∷ p) q
unfolding reading.part_of reading.part_of_by reading.named reading.named_by reading.subscripted reading.subscripted_by behind_open behind_colon
bounds_from_first m last p q h = record { of_element = λ base. h base None; of_name = λ x. h (expr.Name x) None }

bounds_from_place : (m : ℕ) (e : Expr) (last : Option Expr) (p inner q : Lexemes) → Begins p → read m 1 p ≡ Some (e, Mark sign.Colon ∷ inner) → ReadsLast m last inner q
    → ReadsBounds m (Some e) last p q
unfolding reading.part_of reading.part_of_by reading.part_from reading.named reading.named_by reading.subscripted reading.subscripted_by reading.applied reading.applied_by behind_open behind_colon
bounds_from_place m e last p inner q b r h = record {
  of_element = λ base.
      ap (λ behind. reading.part_of_by (read m) base p behind) b.no_colon
      ∙ step_to (read m 1 p) (λ y. behind_colon y.1 >>= (λ rest. reading.part (read m) base (Some y.0) rest)) (e, Mark sign.Colon ∷ inner) r
      ∙ h base (Some e);
  of_name = λ x.
      ap (λ behind. reading.subscripted_by (read m) (arguments m) x p behind) b.no_colon
      ∙ step_to (read m 1 p) (λ y. reading.applied (read m) (arguments m) x y.0 y.1) (e, Mark sign.Colon ∷ inner) r
      ∙ h (expr.Name x) (Some e);
}

last_to_last : (m : ℕ) (q : Lexemes) → ReadsLast m None (Mark sign.Close ∷ q) q
unfolding reading.part reading.part_by behind_close
last_to_last m q base first = refl

last_to_place : (m : ℕ) (e : Expr) (p q : Lexemes) → Begins p → read m 1 p ≡ Some (e, Mark sign.Close ∷ q) → ReadsLast m (Some e) p q
unfolding reading.part reading.part_by reading.last_place behind_close
last_to_place m e p q b r base first =
    let closing : Expr × Lexemes → Option (Expr × Lexemes) = λ y. behind_close y.1 >>= (λ rest. Some (y.0, rest)) in
    let parts : Expr × Lexemes → Option (Expr × Lexemes) = λ y. Some (expr.Part base first (Some y.0), y.1) in
    ap (λ behind. reading.part_by (read m) base first p behind) b.no_close
    ∙ ap (λ (made : Option (Expr × Lexemes)). (made >>= closing) >>= parts) r

-- behind the right operand of an operator nothing goes on that goes on behind what the operator made
right_ends : (l : ℕ) (o : BinaryOp) (q : Lexemes) → l ≤ level o → tight q ≤ l → operator_at (right o) q ≡ None
unfolding operator_at tight
right_ends l o (Infix other ∷ more) high t = operator-none (right o) other more (behind_right o other (le_trans t high))
right_ends l o other high t = refl

-- an operator between two operands
reaches_between : (l : ℕ) (o : BinaryOp) (a b : Expr) (p middle q : Lexemes) → l ≤ level o → suc (length q) ≤ length middle
    → Reaches (left o) a p (Infix o ∷ middle) → Reaches (right o) b middle q → Reaches l (expr.Binary o a b) p q
unfolding onwards reading.onward reading.joined tight
reaches_between l o a b p middle q high shorter first second wanted fuel result w t h next =
    first wanted fuel result (le_trans w (le_trans high (level-left o))) (le_refl (left o)) h (λ m k.
    from_suc (λ (f : ℕ). onwards f wanted a (Infix o ∷ middle) ≡ result) (suc (length middle)) (λ f g.
    ap (λ at. reading.onward (read f) (onwards f wanted) a (Infix o ∷ middle) at) (operator-high wanted o middle (le_trans w high))
    ∙ step_to (read f (right o) middle) (λ y. onwards f wanted (expr.Binary o a y.0) y.1) (b, q)
    (settled (right o) b middle q second f g (le_trans t (le_trans high (level-right o))) (right_ends l o q high t))
    ∙ next f (le_trans shorter (omega arith))) m k)

-- the operand of a sign or of `.NOT.` ends where what they make does
word_ends : (k : ℕ) (q : Lexemes) → tight q ≤ k → operator_at (suc k) q ≡ None
word_ends k q t = no_operator (suc k) q (omega arith)

reaches_minus : (l : ℕ) (e : Expr) (p q : Lexemes) → l ≤ 7 → suc (length q) ≤ length p → Reaches 8 e p q → Reaches l (expr.Minus e) (Infix operator.Minus ∷ p) q
unfolding reading.signed
reaches_minus l e p q high shorter reaches =
    reaches_operand l (expr.Minus e) (Infix operator.Minus ∷ p) q (omega arith) (λ wanted m w h t.
    sign_read wanted m p operator.Minus (le_trans w high)
    ∙ step_to (read m 8 p) (λ y. Some (expr.Minus y.0, y.1)) (e, q) (settled 8 e p q reaches m h (omega arith) (word_ends 7 q (le_trans t high))))

reaches_plus : (l : ℕ) (e : Expr) (p q : Lexemes) → l ≤ 7 → suc (length q) ≤ length p → Reaches 8 e p q → Reaches l (expr.Plus e) (Infix operator.Plus ∷ p) q
unfolding reading.signed
reaches_plus l e p q high shorter reaches =
    reaches_operand l (expr.Plus e) (Infix operator.Plus ∷ p) q (omega arith) (λ wanted m w h t.
    sign_read wanted m p operator.Plus (le_trans w high)
    ∙ step_to (read m 8 p) (λ y. Some (expr.Plus y.0, y.1)) (e, q) (settled 8 e p q reaches m h (omega arith) (word_ends 7 q (le_trans t high))))

reaches_not : (l : ℕ) (e : Expr) (p q : Lexemes) → l ≤ 4 → suc (length q) ≤ length p → Reaches 5 e p q → Reaches l (expr.Not e) (Negation ∷ p) q
unfolding reading.negated
reaches_not l e p q high shorter reaches =
    reaches_operand l (expr.Not e) (Negation ∷ p) q (omega arith) (λ wanted m w h t.
    not_read wanted m p (le_trans w high)
    ∙ step_to (read m 5 p) (λ y. Some (expr.Not y.0, y.1)) (e, q) (settled 5 e p q reaches m h (omega arith) (word_ends 4 q (le_trans t high))))

reaches_inside : (l : ℕ) (e : Expr) (p q : Lexemes) → suc (suc (length q)) ≤ length p → Reaches 1 e p (Mark sign.Close ∷ q)
    → Reaches l (expr.Paren e) (Mark sign.Open ∷ p) q
unfolding reading.operand reading.primary reading.parenthesised reading.last_place behind_close
reaches_inside l e p q shorter reaches =
    let closing : Expr × Lexemes → Option (Expr × Lexemes) = λ y. behind_close y.1 >>= (λ rest. Some (y.0, rest)) in
    let inside : Expr × Lexemes → Option (Expr × Lexemes) = λ y. Some (expr.Paren y.0, y.1) in
    reaches_operand l (expr.Paren e) (Mark sign.Open ∷ p) q (omega arith) (λ wanted m w h t.
    ap (λ (made : Option (Expr × Lexemes)). (made >>= closing) >>= inside) (before_close e p q reaches m h))

number_read : (value : ℕ) → value ≤ 2147483647 → reading.number value ≡ Some (expr.Int (pos value))
unfolding reading.number
number_read value small = ap (λ (test : Bool). if test then Some (expr.Int (pos value)) else None) (le-leb value 2147483647 small)

reaches_number : (l : ℕ) (digits : List ℕ) (value : ℕ) (q : Lexemes) → value ≤ 2147483647 → Reaches l (expr.Int (pos value)) (Number digits value ∷ q) q
unfolding reading.operand reading.primary
reaches_number l digits value q small =
    reaches_operand l (expr.Int (pos value)) (Number digits value ∷ q) q (le_refl _)
    (λ wanted m w h t. step_to (reading.number value) (λ e. Some (e, q)) (expr.Int (pos value)) (number_read value small))

reaches_text : (l : ℕ) (characters : List ℕ) (q : Lexemes) → Reaches l (expr.Text characters) (Quoted characters ∷ q) q
unfolding reading.operand reading.primary
reaches_text l characters q = reaches_operand l (expr.Text characters) (Quoted characters ∷ q) q (le_refl _) (λ wanted m w h t. refl)

reaches_truth : (l : ℕ) (b : Bool) (q : Lexemes) → Reaches l (expr.Logical b) (Truth b ∷ q) q
unfolding reading.operand reading.primary
reaches_truth l b q = reaches_operand l (expr.Logical b) (Truth b ∷ q) q (le_refl _) (λ wanted m w h t. refl)

reaches_call : (l : ℕ) (x : List ℕ) (q : Lexemes) → Reaches l (expr.Apply x []) (Name x ∷ Mark sign.Open ∷ Mark sign.Close ∷ q) q
unfolding reading.operand reading.primary reading.called reading.called_by behind_open behind_close
reaches_call l x q = reaches_operand l (expr.Apply x []) (Name x ∷ Mark sign.Open ∷ Mark sign.Close ∷ q) q (omega arith) (λ wanted m w h t. refl)

reaches_place : (l : ℕ) (e : Expr) (p q : Lexemes) → l ≤ 10 → suc (length q) ≤ length p → ((m : ℕ) → length p ≤ m → tight q ≤ 10 → ReadsPlace m e p q) → Reaches l e p q
reaches_place l e p q high shorter reads =
    reaches_operand l e p q shorter (λ wanted m w h t. (reads m h (le_trans t high)).as_operand wanted)

no_call : (p : Lexemes) → behind_close p ≡ None → (behind_open (Mark sign.Open ∷ p) >>= behind_close) ≡ None
unfolding behind_open
no_call p h = h

name_alone : (m : ℕ) (x : List ℕ) (q : Lexemes) → tight q ≤ 10 → ReadsPlace m (expr.Name x) (Name x ∷ q) q
unfolding reading.named reading.named_by
name_alone m x q t =
    from_name m x (expr.Name x) q q (ap (λ behind. behind >>= behind_close) (not_open q t)) (ap (λ behind. reading.named_by (read m) (arguments m) x q behind) (not_open q t))

mutual
  pub expression_reaches : (l : ℕ) (e : Expr) (p q : Lexemes) → SpellsExpr l e p q → Reaches l e p q
  expression_reaches _ _ _ _ (spell.number l digits value q h small) = reaches_number l digits value q small
  expression_reaches _ _ _ _ (spell.text l characters q h) = reaches_text l characters q
  expression_reaches _ _ _ _ (spell.truth l b q h) = reaches_truth l b q
  expression_reaches _ _ _ _ (spell.place l e p q h s) = reaches_place l e p q h (place_shorter e p q s) (place_reads e p q s)
  expression_reaches _ _ _ _ (spell.call l x q h) = reaches_call l x q
  expression_reaches _ _ _ _ (spell.parenthesised l e p q h s) =
      reaches_inside l e p q (expression_shorter 1 e p (Mark sign.Close ∷ q) s) (expression_reaches 1 e p (Mark sign.Close ∷ q) s)
  expression_reaches _ _ _ _ (spell.negative l e p q h s) = reaches_minus l e p q h (expression_shorter 8 e p q s) (expression_reaches 8 e p q s)
  expression_reaches _ _ _ _ (spell.positive l e p q h s) = reaches_plus l e p q h (expression_shorter 8 e p q s) (expression_reaches 8 e p q s)
  expression_reaches _ _ _ _ (spell.negated l e p q h s) = reaches_not l e p q h (expression_shorter 5 e p q s) (expression_reaches 5 e p q s)
  expression_reaches _ _ _ _ (spell.between l o a b p middle q h s t) =
      reaches_between l o a b p middle q h (expression_shorter (right o) b middle q t)
      (expression_reaches (left o) a p (Infix o ∷ middle) s) (expression_reaches (right o) b middle q t)

  pub place_reads : (e : Expr) (p q : Lexemes) → SpellsPlace e p q → (m : ℕ) → length p ≤ m → tight q ≤ 10 → ReadsPlace m e p q
  place_reads _ _ _ (spell.name x q) m h t = name_alone m x q t
  place_reads _ _ _ (spell.element x es p q s) m h t =
      let b = arguments_begin es p q s in
      from_name m x (expr.Apply x es) (Mark sign.Open ∷ p) q (no_call p b.no_close)
      (from_arguments m x es (expr.Apply x es) p q q b (arguments_read es p q s m [] (le_trans (omega arith) h)) (element_read m (expr.Apply x es) q t))
  place_reads _ _ _ (spell.part_of_variable x f l p q s) m h t =
      from_name m x (expr.Part (expr.Name x) f l) (Mark sign.Open ∷ p) q (no_call p (bounds_begin f l p q s))
      ((bounds_read f l p q s m (le_trans (omega arith) h)).of_name x)
  place_reads _ _ _ (spell.part_of_element x es f l p behind q s b) m h t =
      let i = arguments_begin es p (Mark sign.Open ∷ behind) s in
      let k : suc (suc (length behind)) ≤ length p = arguments_shorter es p (Mark sign.Open ∷ behind) s in
      let k' : suc (suc (length p)) ≤ m = h in
      from_name m x (expr.Part (expr.Apply x es) f l) (Mark sign.Open ∷ p) q (no_call p i.no_close)
      (from_arguments m x es (expr.Part (expr.Apply x es) f l) p (Mark sign.Open ∷ behind) q i
      (arguments_read es p (Mark sign.Open ∷ behind) s m [] (omega arith))
      (part_read m (expr.Apply x es) (expr.Part (expr.Apply x es) f l) behind q ((bounds_read f l behind q b m (omega arith)).of_element (expr.Apply x es))))

  arguments_read : (es : List Expr) (p q : Lexemes) → SpellsArguments es p q → (m : ℕ) (found : List Expr) → suc (length p) ≤ m → ReadsArguments m found es p q
  arguments_read _ _ _ (spell.last_argument e p q s) m found h =
      last_argument_read m found e p q h (expression_reaches 1 e p (Mark sign.Close ∷ q) s)
  arguments_read _ _ _ (spell.one_argument e es p behind q s t) m found h =
      one_argument_read m found e es p behind q h (expression_shorter 1 e p (Mark sign.Comma ∷ behind) s)
      (expression_reaches 1 e p (Mark sign.Comma ∷ behind) s) (λ k given. arguments_read es behind q t k (found ++ (e ∷ [])) given)

  bounds_read : (f l : Option Expr) (p q : Lexemes) → SpellsBounds f l p q → (m : ℕ) → suc (length p) ≤ m → ReadsBounds m f l p q
  bounds_read _ _ _ _ (spell.from_first l p q s) m h = bounds_from_first m l p q (last_reads l p q s m (le_trans (omega arith) h))
  bounds_read _ _ _ _ (spell.from_place e l p inner q s t) m h =
      let k : suc (suc (length inner)) ≤ length p = expression_shorter 1 e p (Mark sign.Colon ∷ inner) s in
      bounds_from_place m e l p inner q (expression_begins 1 e p (Mark sign.Colon ∷ inner) s)
      (before_colon e p inner (expression_reaches 1 e p (Mark sign.Colon ∷ inner) s) m h) (last_reads l inner q t m (omega arith))

  last_reads : (l : Option Expr) (p q : Lexemes) → SpellsLast l p q → (m : ℕ) → suc (length p) ≤ m → ReadsLast m l p q
  last_reads _ _ _ (spell.to_last q) m h = last_to_last m q
  last_reads _ _ _ (spell.to_place e p q s) m h =
      last_to_place m e p q (expression_begins 1 e p (Mark sign.Close ∷ q) s) (before_close e p q (expression_reaches 1 e p (Mark sign.Close ∷ q) s) m h)
