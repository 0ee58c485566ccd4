-- Which expression and which place pieces spell: the expression is what stands between the pieces from its first on and the pieces that are
-- left behind it. ANSI X3.9-1978, sections 6.1 to 6.5: expressions, operators and their precedence; 5.3 and 5.7: elements and substrings;
-- 15.5: functions. An expression has the level of the operator that it was made by last, or a lower one: 1 for `.EQV.` and `.NEQV.`, 2 for
-- `.OR.`, 3 for `.AND.`, 4 for `.NOT.`, 5 for relations, 6 for `//`, 7 for `+` and `-`, also as signs, 8 for `*` and `/`, 9 for `**`, and 10
-- for primaries.
use Rattle.std.specs.Prelude.{ℕ, ◌≤◌, suc, Bool, pos, List, [], ◌∷◌, Option, Some, None}
use Rattle.fortran_lexemes.specs.f_tree.declared.expressions.BinaryOp.{BinaryOp}
use Rattle.fortran_lexemes.specs.f_tree.declared.expressions.BinaryOp.TheVariants as operator
use Rattle.fortran_lexemes.specs.f_tree.declared.expressions.Expr.{Expr}
use Rattle.fortran_lexemes.specs.f_tree.declared.expressions.Expr as expr
use Rattle.fortran_lexemes.specs.Lexemes.{Lexemes, Name, Number, Quoted, Infix, Negation, Truth, Mark}
use Rattle.fortran_lexemes.specs.declared.signs.Sign.TheVariants as sign

-- The level of what an operator makes. Section 6.5.
unfoldable pub level : BinaryOp → ℕ
level operator.Power = 9
level operator.Times = 8
level operator.Divide = 8
level operator.Plus = 7
level operator.Minus = 7
level operator.Concatenate = 6
level operator.Less = 5
level operator.LessOrEqual = 5
level operator.Equal = 5
level operator.NotEqual = 5
level operator.Greater = 5
level operator.GreaterOrEqual = 5
level operator.And = 3
level operator.Or = 2
level operator.Equivalent = 1
level operator.NotEquivalent = 1

-- The least level of a left operand: operators group to the left, but `**` to the right. Section 6.1.2.
unfoldable pub left : BinaryOp → ℕ
left operator.Power = 10
left other = level other

-- The least level of a right operand.
unfoldable pub right : BinaryOp → ℕ
right operator.Power = 9
right other = suc (level other)

mutual
  -- an expression of a level or a higher one
  pub data SpellsExpr : ℕ → Expr → Lexemes → Lexemes → Type 0 where
    -- an unsigned integer constant, sections 4.3 and 6.1.1; no greater one is built
    number : (l : ℕ) (digits : List ℕ) (value : ℕ) (after : Lexemes) → l ≤ 10 → value ≤ 2147483647 → SpellsExpr l (expr.Int (pos value)) (Number digits value ∷ after) after
    -- a character constant, sections 4.8 and 6.2.1
    text : (l : ℕ) (characters : List ℕ) (after : Lexemes) → l ≤ 10 → SpellsExpr l (expr.Text characters) (Quoted characters ∷ after) after
    -- `.TRUE.` or `.FALSE.`, sections 4.7 and 6.4.1
    truth : (l : ℕ) (b : Bool) (after : Lexemes) → l ≤ 10 → SpellsExpr l (expr.Logical b) (Truth b ∷ after) after
    -- a variable, array, constant or procedure by its name, an element or a substring
    place : (l : ℕ) (e : Expr) (before after : Lexemes) → l ≤ 10 → SpellsPlace e before after → SpellsExpr l e before after
    -- a function without arguments, section 15.5.2
    call : (l : ℕ) (name : List ℕ) (after : Lexemes) → l ≤ 10
        → SpellsExpr l (expr.Apply name []) (Name name ∷ Mark sign.Open ∷ Mark sign.Close ∷ after) after
    -- an expression in parentheses
    parenthesised : (l : ℕ) (e : Expr) (inner after : Lexemes) → l ≤ 10 → SpellsExpr 1 e inner (Mark sign.Close ∷ after)
        → SpellsExpr l (expr.Paren e) (Mark sign.Open ∷ inner) after
    -- `-` or `+` before the first operand of a sum, section 6.1.2
    negative : (l : ℕ) (e : Expr) (inner after : Lexemes) → l ≤ 7 → SpellsExpr 8 e inner after
        → SpellsExpr l (expr.Minus e) (Infix operator.Minus ∷ inner) after
    positive : (l : ℕ) (e : Expr) (inner after : Lexemes) → l ≤ 7 → SpellsExpr 8 e inner after
        → SpellsExpr l (expr.Plus e) (Infix operator.Plus ∷ inner) after
    -- `.NOT.`, section 6.4.2
    negated : (l : ℕ) (e : Expr) (inner after : Lexemes) → l ≤ 4 → SpellsExpr 5 e inner after
        → SpellsExpr l (expr.Not e) (Negation ∷ inner) after
    -- an operator between two operands, sections 6.1.2, 6.2.2, 6.3 and 6.4.2
    between : (l : ℕ) (o : BinaryOp) (a b : Expr) (before middle after : Lexemes) → l ≤ level o
        → SpellsExpr (left o) a before (Infix o ∷ middle) → SpellsExpr (right o) b middle after
        → SpellsExpr l (expr.Binary o a b) before after

  -- what may be assigned to or read into, or have its name passed on
  pub data SpellsPlace : Expr → Lexemes → Lexemes → Type 0 where
    -- a name
    name : (x : List ℕ) (after : Lexemes) → SpellsPlace (expr.Name x) (Name x ∷ after) after
    -- an array element, or a function with arguments, sections 5.3 and 15.5.2
    element : (x : List ℕ) (arguments : List Expr) (inner after : Lexemes) → SpellsArguments arguments inner after
        → SpellsPlace (expr.Apply x arguments) (Name x ∷ Mark sign.Open ∷ inner) after
    -- a substring of a variable, section 5.7
    part_of_variable : (x : List ℕ) (first last : Option Expr) (inner after : Lexemes) → SpellsBounds first last inner after
        → SpellsPlace (expr.Part (expr.Name x) first last) (Name x ∷ Mark sign.Open ∷ inner) after
    -- a substring of an element, section 5.7
    part_of_element : (x : List ℕ) (arguments : List Expr) (first last : Option Expr) (inner behind after : Lexemes)
        → SpellsArguments arguments inner (Mark sign.Open ∷ behind) → SpellsBounds first last behind after
        → SpellsPlace (expr.Part (expr.Apply x arguments) first last) (Name x ∷ Mark sign.Open ∷ inner) after

  -- subscripts or arguments, one at least, up to the closing parenthesis
  pub data SpellsArguments : List Expr → Lexemes → Lexemes → Type 0 where
    last_argument : (e : Expr) (before after : Lexemes) → SpellsExpr 1 e before (Mark sign.Close ∷ after) → SpellsArguments (e ∷ []) before after
    one_argument : (e : Expr) (es : List Expr) (before behind after : Lexemes) → SpellsExpr 1 e before (Mark sign.Comma ∷ behind)
        → SpellsArguments es behind after → SpellsArguments (e ∷ es) before after

  -- the first and the last place of a substring, each of which may be left out, up to the closing parenthesis
  pub data SpellsBounds : Option Expr → Option Expr → Lexemes → Lexemes → Type 0 where
    from_first : (last : Option Expr) (inner after : Lexemes) → SpellsLast last inner after → SpellsBounds None last (Mark sign.Colon ∷ inner) after
    from_place : (e : Expr) (last : Option Expr) (before inner after : Lexemes) → SpellsExpr 1 e before (Mark sign.Colon ∷ inner)
        → SpellsLast last inner after → SpellsBounds (Some e) last before after

  pub data SpellsLast : Option Expr → Lexemes → Lexemes → Type 0 where
    to_last : (after : Lexemes) → SpellsLast None (Mark sign.Close ∷ after) after
    to_place : (e : Expr) (before after : Lexemes) → SpellsExpr 1 e before (Mark sign.Close ∷ after) → SpellsLast (Some e) before after

-- An expression. Section 6.
abbrev pub SpellsExpression : Expr → Lexemes → Lexemes → Type 0
SpellsExpression = SpellsExpr 1
