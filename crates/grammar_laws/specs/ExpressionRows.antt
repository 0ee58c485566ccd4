-- Pieces with the expression that they spell, or none. ANSI X3.9-1978, sections 5.7, 6.1 to 6.5 and 15.5.
use Rattle.std.specs.Prelude.{pos, true, List, [], ◌∷◌, codes, Option, Some, None}
use Rattle.fortran_grammar.specs.f_tree.declared.expressions.BinaryOp.TheVariants as operator
use Rattle.fortran_grammar.specs.f_tree.declared.expressions.Expr.{Expr}
use Rattle.fortran_grammar.specs.f_tree.declared.expressions.Expr as expr
use Rattle.fortran_grammar.specs.fortran_lexemes.Lexemes.{Lexeme, Lexemes, Name, Number, Quoted, Infix, Negation, Truth, Mark}
use Rattle.fortran_grammar.specs.fortran_lexemes.declared.signs.Sign.TheVariants as sign
use Rattle.fortran_grammar.specs.ExpressionSpelling.{SpellsExpression}

pub record Row : Type 0 where
  pub pieces : Lexemes
  pub tree : Option Expr

-- The pieces spell the expression, or none.
abbrev pub Says : Lexemes → Option Expr → Type 0
Says pieces (Some e) = SpellsExpression e pieces []
Says pieces None = (e : Expr) → SpellsExpression e pieces [] → ⊥

abbrev pub AllSay : List Row → Type 0
AllSay [] = Unit {0}
AllSay (row ∷ rows) = Says row.pieces row.tree × AllSay rows

abbrev spelled : Lexemes → Expr → Row
spelled pieces e = record { pieces = pieces; tree = Some e }

abbrev none : Lexemes → Row
none pieces = record { pieces = pieces; tree = None }

-- Pieces, and the expressions that they are by themselves.
abbrev a : Lexeme
a = Name (codes "a")

abbrev b : Lexeme
b = Name (codes "b")

abbrev c : Lexeme
c = Name (codes "c")

abbrev s : Lexeme
s = Name (codes "s")

abbrev one : Lexeme
one = Number (codes "1") 1

abbrev two : Lexeme
two = Number (codes "2") 2

abbrev opened : Lexeme
opened = Mark sign.Open

abbrev closed : Lexeme
closed = Mark sign.Close

abbrev comma : Lexeme
comma = Mark sign.Comma

abbrev colon : Lexeme
colon = Mark sign.Colon

abbrev plus : Lexeme
plus = Infix operator.Plus

abbrev minus : Lexeme
minus = Infix operator.Minus

abbrev times : Lexeme
times = Infix operator.Times

abbrev power : Lexeme
power = Infix operator.Power

abbrev less : Lexeme
less = Infix operator.Less

abbrev var_a : Expr
var_a = expr.Name (codes "a")

abbrev var_b : Expr
var_b = expr.Name (codes "b")

abbrev var_c : Expr
var_c = expr.Name (codes "c")

abbrev var_s : Expr
var_s = expr.Name (codes "s")

abbrev first : Expr
first = expr.Int (pos 1)

abbrev second : Expr
second = expr.Int (pos 2)

-- Operators and signs.
abbrev pub operator_rows : List Row
operator_rows =
    spelled (a ∷ power ∷ b ∷ power ∷ c ∷ []) (expr.Binary operator.Power var_a (expr.Binary operator.Power var_b var_c))
    ∷ spelled (a ∷ minus ∷ b ∷ minus ∷ c ∷ []) (expr.Binary operator.Minus (expr.Binary operator.Minus var_a var_b) var_c)
    ∷ spelled (a ∷ times ∷ b ∷ Infix operator.Divide ∷ c ∷ []) (expr.Binary operator.Divide (expr.Binary operator.Times var_a var_b) var_c)
    ∷ spelled (a ∷ plus ∷ b ∷ times ∷ c ∷ power ∷ two ∷ []) (expr.Binary operator.Plus var_a (expr.Binary operator.Times var_b (expr.Binary operator.Power var_c second)))
    ∷ spelled (minus ∷ a ∷ power ∷ b ∷ []) (expr.Minus (expr.Binary operator.Power var_a var_b))
    ∷ spelled (minus ∷ a ∷ times ∷ b ∷ []) (expr.Minus (expr.Binary operator.Times var_a var_b))
    ∷ spelled (minus ∷ a ∷ plus ∷ b ∷ []) (expr.Binary operator.Plus (expr.Minus var_a) var_b)
    ∷ spelled (plus ∷ a ∷ []) (expr.Plus var_a)
    ∷ none (a ∷ times ∷ minus ∷ b ∷ [])
    ∷ none (a ∷ power ∷ minus ∷ b ∷ [])
    ∷ none (a ∷ plus ∷ minus ∷ b ∷ [])
    ∷ none (minus ∷ minus ∷ a ∷ [])
    ∷ spelled (a ∷ power ∷ opened ∷ minus ∷ one ∷ closed ∷ []) (expr.Binary operator.Power var_a (expr.Paren (expr.Minus first)))
    ∷ spelled (a ∷ less ∷ b ∷ less ∷ c ∷ []) (expr.Binary operator.Less (expr.Binary operator.Less var_a var_b) var_c)
    ∷ spelled (a ∷ less ∷ minus ∷ b ∷ []) (expr.Binary operator.Less var_a (expr.Minus var_b))
    ∷ spelled (a ∷ Infix operator.Equal ∷ b ∷ Infix operator.Concatenate ∷ c ∷ []) (expr.Binary operator.Equal var_a (expr.Binary operator.Concatenate var_b var_c))
    ∷ spelled (Negation ∷ a ∷ Infix operator.And ∷ b ∷ []) (expr.Binary operator.And (expr.Not var_a) var_b)
    ∷ spelled (Negation ∷ a ∷ less ∷ b ∷ []) (expr.Not (expr.Binary operator.Less var_a var_b))
    ∷ none (Negation ∷ Negation ∷ a ∷ [])
    ∷ none (minus ∷ Negation ∷ a ∷ [])
    ∷ spelled (a ∷ Infix operator.Or ∷ b ∷ Infix operator.And ∷ c ∷ []) (expr.Binary operator.Or var_a (expr.Binary operator.And var_b var_c))
    ∷ spelled (a ∷ Infix operator.Equivalent ∷ b ∷ Infix operator.NotEquivalent ∷ Truth true ∷ [])
    (expr.Binary operator.NotEquivalent (expr.Binary operator.Equivalent var_a var_b) (expr.Logical true))
    ∷ none (a ∷ plus ∷ [])
    ∷ none (a ∷ b ∷ [])
    ∷ none [] ∷ []

-- Names with parentheses.
abbrev pub name_rows : List Row
name_rows =
    spelled (a ∷ opened ∷ closed ∷ []) (expr.Apply (codes "a") [])
    ∷ spelled (a ∷ opened ∷ one ∷ comma ∷ b ∷ plus ∷ two ∷ closed ∷ []) (expr.Apply (codes "a") (first ∷ expr.Binary operator.Plus var_b second ∷ []))
    ∷ spelled (s ∷ opened ∷ one ∷ colon ∷ two ∷ closed ∷ []) (expr.Part var_s (Some first) (Some second))
    ∷ spelled (s ∷ opened ∷ colon ∷ closed ∷ []) (expr.Part var_s None None)
    ∷ spelled (s ∷ opened ∷ one ∷ colon ∷ closed ∷ []) (expr.Part var_s (Some first) None)
    ∷ spelled (a ∷ opened ∷ one ∷ closed ∷ opened ∷ colon ∷ two ∷ closed ∷ []) (expr.Part (expr.Apply (codes "a") (first ∷ [])) None (Some second))
    ∷ none (s ∷ opened ∷ one ∷ colon ∷ two ∷ closed ∷ opened ∷ one ∷ colon ∷ one ∷ closed ∷ [])
    ∷ none (opened ∷ s ∷ closed ∷ opened ∷ one ∷ colon ∷ two ∷ closed ∷ [])
    ∷ none (Quoted (codes "abc") ∷ opened ∷ one ∷ colon ∷ two ∷ closed ∷ [])
    ∷ none (a ∷ opened ∷ closed ∷ opened ∷ one ∷ colon ∷ two ∷ closed ∷ [])
    ∷ none (a ∷ opened ∷ one ∷ comma ∷ closed ∷ [])
    ∷ none (a ∷ opened ∷ one ∷ comma ∷ two ∷ colon ∷ closed ∷ [])
    ∷ none (a ∷ opened ∷ one ∷ [])
    ∷ none (opened ∷ closed ∷ [])
    ∷ spelled (opened ∷ Quoted (codes "abc") ∷ closed ∷ []) (expr.Paren (expr.Text (codes "abc")))
    ∷ none (Number (codes "2147483648") 2147483648 ∷ []) ∷ []
