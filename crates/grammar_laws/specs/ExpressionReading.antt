-- The reader of expressions and of places: what stands first in pieces, and the pieces that are left. ANSI X3.9-1978, section 6. It takes an
-- operand, and goes on while an operator of the level that is wanted, or of a higher one, follows.
use Rattle.std.specs.Prelude.{ℕ, zero, suc, ◌+◌, nat_le, Bool, true, false, pos, List, [], ◌∷◌, ◌++◌, length, Option, Some, None, if◌then◌else◌}
use Rattle.fortran_grammar.specs.f_tree.declared.expressions.BinaryOp.{BinaryOp}
use Rattle.fortran_grammar.specs.f_tree.declared.expressions.BinaryOp.TheVariants as operator
use Rattle.fortran_grammar.specs.f_tree.declared.expressions.Expr.{Expr}
use Rattle.fortran_grammar.specs.f_tree.declared.expressions.Expr as expr
use Rattle.fortran_grammar.specs.fortran_lexemes.Lexemes.{Lexemes, Name, Number, Quoted, Infix, Negation, Truth, Mark}
use Rattle.fortran_grammar.specs.fortran_lexemes.declared.signs.Sign.TheVariants as sign
use Rattle.fortran_grammar.specs.ExpressionSpelling.{level, right}
use Rattle.grammar_laws.specs.Exactness.{Reader}

infixl 1 ◌>>=◌
-- what is read behind what was read
abbrev pub ◌>>=◌ : {A B : Type 0} → Option A → (A → Option B) → Option B
None >>= next = None
Some found >>= next = next found

-- A reader of expressions of a level, and one that goes on behind arguments that it is given.
abbrev pub Levels : Type 0
Levels = ℕ → Reader Expr

abbrev pub Going : Type 0
Going = List Expr → Reader (List Expr)

-- The pieces behind a mark, where it stands first.
unfoldable pub behind_open : Lexemes → Option Lexemes
behind_open (Mark sign.Open ∷ more) = Some more
behind_open other = None

unfoldable pub behind_close : Lexemes → Option Lexemes
behind_close (Mark sign.Close ∷ more) = Some more
behind_close other = None

unfoldable pub behind_comma : Lexemes → Option Lexemes
behind_comma (Mark sign.Comma ∷ more) = Some more
behind_comma other = None

unfoldable pub behind_colon : Lexemes → Option Lexemes
behind_colon (Mark sign.Colon ∷ more) = Some more
behind_colon other = None

abbrev pub behind_empty : Lexemes → Option Lexemes
behind_empty pieces = behind_open pieces >>= behind_close

-- The operator that stands first, if it has the level or a higher one, and the pieces behind it.
unfoldable pub operator_at : ℕ → Lexemes → Option (BinaryOp × Lexemes)
operator_at l (Infix o ∷ more) = if nat_le l (level o) then Some (o, more) else None
operator_at l other = None

-- Behind the colon of a substring: `)`, or an expression and `)`.
unfoldable pub last_place : Levels → Reader Expr
last_place read pieces = read 1 pieces >>= (λ p. behind_close p.1 >>= (λ rest. Some (p.0, rest)))

unfoldable pub part_by : Levels → Expr → Option Expr → Lexemes → Option Lexemes → Option (Expr × Lexemes)
part_by read base first pieces (Some rest) = Some (expr.Part base first None, rest)
part_by read base first pieces None = last_place read pieces >>= (λ p. Some (expr.Part base first (Some p.0), p.1))

unfoldable pub part : Levels → Expr → Option Expr → Reader Expr
part read base first pieces = part_by read base first pieces (behind_close pieces)

-- Behind the parenthesis of a substring of an element: an expression and `:`, or `:`.
unfoldable pub part_from : Levels → Expr → Reader Expr
part_from read base pieces = read 1 pieces >>= (λ p. behind_colon p.1 >>= (λ rest. part read base (Some p.0) rest))

unfoldable pub part_of_by : Levels → Expr → Lexemes → Option Lexemes → Option (Expr × Lexemes)
part_of_by read base pieces (Some rest) = part read base None rest
part_of_by read base pieces None = part_from read base pieces

unfoldable pub part_of : Levels → Expr → Reader Expr
part_of read base pieces = part_of_by read base pieces (behind_colon pieces)

-- An element, or a substring of it where a parenthesis follows.
unfoldable pub element_by : Levels → Expr → Lexemes → Option Lexemes → Option (Expr × Lexemes)
element_by read base pieces (Some rest) = part_of read base rest
element_by read base pieces None = Some (base, pieces)

unfoldable pub element : Levels → Expr → Reader Expr
element read base pieces = element_by read base pieces (behind_open pieces)

-- A name in whose parentheses an expression was read: a substring where a colon follows, else an element.
unfoldable pub applied_by : Levels → Going → List ℕ → Expr → Lexemes → Option Lexemes → Option (Expr × Lexemes)
applied_by read go x first pieces (Some rest) = part read (expr.Name x) (Some first) rest
applied_by read go x first pieces None = go (first ∷ []) pieces >>= (λ p. element read (expr.Apply x p.0) p.1)

unfoldable pub applied : Levels → Going → List ℕ → Expr → Reader Expr
applied read go x first pieces = applied_by read go x first pieces (behind_colon pieces)

-- A name and what stands behind its parenthesis.
unfoldable pub subscripted_by : Levels → Going → List ℕ → Lexemes → Option Lexemes → Option (Expr × Lexemes)
subscripted_by read go x pieces (Some rest) = part read (expr.Name x) None rest
subscripted_by read go x pieces None = read 1 pieces >>= (λ p. applied read go x p.0 p.1)

unfoldable pub subscripted : Levels → Going → List ℕ → Reader Expr
subscripted read go x pieces = subscripted_by read go x pieces (behind_colon pieces)

-- A name and what stands behind it, where a place is wanted.
unfoldable pub named_by : Levels → Going → List ℕ → Lexemes → Option Lexemes → Option (Expr × Lexemes)
named_by read go x pieces (Some rest) = subscripted read go x rest
named_by read go x pieces None = Some (expr.Name x, pieces)

unfoldable pub named : Levels → Going → List ℕ → Reader Expr
named read go x pieces = named_by read go x pieces (behind_open pieces)

-- A name and what stands behind it, where a primary is wanted: `()` may stand there too.
unfoldable pub called_by : Levels → Going → List ℕ → Lexemes → Option Lexemes → Option (Expr × Lexemes)
called_by read go x pieces (Some rest) = Some (expr.Apply x [], rest)
called_by read go x pieces None = named read go x pieces

unfoldable pub called : Levels → Going → List ℕ → Reader Expr
called read go x pieces = called_by read go x pieces (behind_empty pieces)

-- An expression in parentheses, behind the first of them.
unfoldable pub parenthesised : Levels → Reader Expr
parenthesised read pieces = last_place read pieces >>= (λ p. Some (expr.Paren p.0, p.1))

-- An unsigned integer constant.
unfoldable pub number : ℕ → Option Expr
number value = if nat_le value 2147483647 then Some (expr.Int (pos value)) else None

unfoldable pub primary : Levels → Going → Reader Expr
primary read go (Name x ∷ more) = called read go x more
primary read go (Number digits value ∷ more) = number value >>= (λ e. Some (e, more))
primary read go (Quoted characters ∷ more) = Some (expr.Text characters, more)
primary read go (Truth b ∷ more) = Some (expr.Logical b, more)
primary read go (Mark sign.Open ∷ more) = parenthesised read more
primary read go other = None

-- A sign and what it stands before.
unfoldable pub signed : Levels → BinaryOp → Reader Expr
signed read operator.Minus pieces = read 8 pieces >>= (λ p. Some (expr.Minus p.0, p.1))
signed read operator.Plus pieces = read 8 pieces >>= (λ p. Some (expr.Plus p.0, p.1))
signed read other pieces = None

unfoldable pub negated : Levels → Reader Expr
negated read pieces = read 5 pieces >>= (λ p. Some (expr.Not p.0, p.1))

-- The first operand of an expression of a level.
unfoldable pub operand : Levels → Going → ℕ → Reader Expr
operand read go l (Infix o ∷ more) = if nat_le l 7 then signed read o more else None
operand read go l (Negation ∷ more) = if nat_le l 4 then negated read more else None
operand read go l other = primary read go other

-- An operand behind an operator, and what goes on behind it.
unfoldable pub joined : Levels → (Expr → Reader Expr) → Expr → BinaryOp → Reader Expr
joined read go a o pieces = read (right o) pieces >>= (λ p. go (expr.Binary o a p.0) p.1)

unfoldable pub onward : Levels → (Expr → Reader Expr) → Expr → Lexemes → Option (BinaryOp × Lexemes) → Option (Expr × Lexemes)
onward read go a pieces (Some p) = joined read go a p.0 p.1
onward read go a pieces None = Some (a, pieces)

-- A further argument behind a comma, and what goes on behind it.
unfoldable pub further : Levels → Going → List Expr → Reader (List Expr)
further read go found pieces = behind_comma pieces >>= (λ rest. read 1 rest >>= (λ p. go (found ++ (p.0 ∷ [])) p.1))

unfoldable pub arguments_by : Levels → Going → List Expr → Lexemes → Option Lexemes → Option (List Expr × Lexemes)
arguments_by read go found pieces (Some rest) = Some (found, rest)
arguments_by read go found pieces None = further read go found pieces

-- With fuel: an expression of a level, what goes on behind an operand, and what goes on behind arguments.
unfoldable mutual
  pub read : ℕ → Levels
  read zero l pieces = None
  read (suc fuel) l pieces = operand (read fuel) (arguments fuel) l pieces >>= (λ p. onwards fuel l p.0 p.1)

  pub onwards : ℕ → ℕ → Expr → Reader Expr
  onwards zero l a pieces = None
  onwards (suc fuel) l a pieces = onward (read fuel) (onwards fuel l) a pieces (operator_at l pieces)

  pub arguments : ℕ → Going
  arguments zero found pieces = None
  arguments (suc fuel) found pieces = arguments_by (read fuel) (arguments fuel) found pieces (behind_close pieces)

-- The expression that stands first in pieces.
unfoldable pub read_expression : Reader Expr
read_expression pieces = read (length pieces + 1) 1 pieces

unfoldable pub place : Levels → Going → Reader Expr
place read go (Name x ∷ more) = named read go x more
place read go other = None

-- The variable, element or substring that stands first in pieces.
unfoldable pub read_place : Reader Expr
read_place pieces = place (read (length pieces)) (arguments (length pieces)) pieces

-- No opening parenthesis follows: a place ends there, also before an operator, as in a DATA statement. Section 9.1.
unfoldable pub not_applied : Lexemes → Bool
not_applied (Mark sign.Open ∷ more) = false
not_applied other = true
