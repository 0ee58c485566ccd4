-- The text of a C expression (C89, 3.3), with parentheses exactly where the grammar needs them to
-- give the tree back, and with a blank between two signs that would read as one.
use Rattle.std.specs.Prelude.{ℕ, Bool, true, false, if◌then◌else◌, nat_le, List, [], ◌∷◌, ◌++◌, codes}
use Rattle.std.specs.Fmt.{signed_decimal}
use Rattle.c_tree.specs.declared.expression.CExpr.{CExpr, Number, Str, Name, Unary', Cast', Binary', Choose', Index', Field', SizeInt, MaxMin', Abs', end_of-CExpr, more_of-CExpr}
use Rattle.c_tree.specs.declared.expression.UnaryOp.{UnaryOp}
use Rattle.c_tree.specs.declared.expression.UnaryOp.TheVariants.{Minus, Address}
use Rattle.c_tree.specs.declared.expression.CCall.{CCall}
use Rattle.c_text.specs.declared.level.Level.{Level}
use Rattle.c_text.specs.declared.level.Level.TheVariants as level
use Rattle.c_text.specs.Operators.{rank, op_word, op_level, right_level, prefix_word, extreme_word}
use Rattle.c_text.specs.Types.{cast_word}
use Rattle.c_text.specs.Strings.{quoted}
use Rattle.c_text.specs.Lists.{between_commas}

-- how closely an expression binds
unfoldable pub own_level : CExpr → Level
own_level (Number n) = level.Primary
own_level (Str bytes) = level.Primary
own_level (Name name) = level.Primary
own_level (Unary' op s e) = level.Unary
own_level (Cast' of s e) = level.Unary
own_level (Binary' op s a t b) = op_level op
own_level (Choose' s e t a u b) = level.Choice
own_level (Index' s e t i) = level.Postfix
own_level (Field' s e name) = level.Postfix
own_level SizeInt = level.Primary
own_level (MaxMin' which s a t b) = level.Primary
own_level (Abs' s e) = level.Primary

-- do the two signs read as one where no blank stands between them
abbrev pub doubles : UnaryOp → UnaryOp → Bool
doubles Minus Minus = true
doubles Address Address = true
doubles _ _ = false

-- does the operand begin with this very sign, so that the two would read as one
unfoldable pub reads_as_one : UnaryOp → CExpr → Bool
reads_as_one op (Unary' inner s e) = doubles op inner
reads_as_one op _ = false

-- a text at a place of a level, given its own level
abbrev pub in_place : Level → Level → List ℕ → List ℕ
in_place place own text = if nat_le (rank place) (rank own) then text else 40 ∷ (text ++ 41 ∷ [])

-- the blank between two signs
abbrev pub sign_blank : Bool → List ℕ
sign_blank together = if together then 32 ∷ [] else []

unfoldable mutual
  -- an expression without parentheses round it
  pub bare : CExpr → List ℕ
  bare (Number n) = signed_decimal n
  bare (Str bytes) = quoted bytes
  bare (Name name) = name
  bare (Unary' op s (more_of-CExpr e end_of-CExpr)) =
      prefix_word op ++ (sign_blank (reads_as_one op e) ++ in_place level.Unary (own_level e) (bare e))
  bare (Cast' of s (more_of-CExpr e end_of-CExpr)) =
      40 ∷ (cast_word of ++ 41 ∷ in_place level.Unary (own_level e) (bare e))
  bare (Binary' op s (more_of-CExpr a end_of-CExpr) t (more_of-CExpr b end_of-CExpr)) =
      in_place (op_level op) (own_level a) (bare a) ++ (op_word op ++ in_place (right_level op) (own_level b) (bare b))
  bare (Choose' s (more_of-CExpr e end_of-CExpr) t (more_of-CExpr a end_of-CExpr) u (more_of-CExpr b end_of-CExpr)) =
      in_place level.Disjunction (own_level e) (bare e) ++ (codes " ? " ++ (bare a ++ (codes " : " ++ bare b)))
  bare (Index' s (more_of-CExpr e end_of-CExpr) t (more_of-CExpr i end_of-CExpr)) =
      in_place level.Postfix (own_level e) (bare e) ++ (91 ∷ (bare i ++ 93 ∷ []))
  bare (Field' s (more_of-CExpr e end_of-CExpr) name) = in_place level.Postfix (own_level e) (bare e) ++ 46 ∷ name
  bare SizeInt = codes "sizeof(integer)"
  bare (MaxMin' which s (more_of-CExpr a end_of-CExpr) t (more_of-CExpr b end_of-CExpr)) =
      extreme_word which ++ (bare a ++ (codes ", " ++ (bare b ++ 41 ∷ [])))
  bare (Abs' s (more_of-CExpr e end_of-CExpr)) = codes "abs(" ++ (bare e ++ 41 ∷ [])

-- an expression at a place of a level
unfoldable pub printed_at : Level → CExpr → List ℕ
printed_at place e = in_place place (own_level e) (bare e)

-- a sign and its operand
abbrev pub prefixed : UnaryOp → CExpr → List ℕ
prefixed op e = prefix_word op ++ (sign_blank (reads_as_one op e) ++ printed_at level.Unary e)

-- the arguments of a call, each at a place that takes every expression, with a comma between each two
abbrev pub arguments : List CExpr → List ℕ
arguments list = between_commas bare list

-- what is called
abbrev pub callee : Bool → List ℕ → List ℕ
callee through name = if through then codes "(*" ++ (name ++ 41 ∷ []) else name

-- a call, without its semicolon
abbrev pub printed_call : CCall → List ℕ
printed_call call = callee call.through call.name ++ (40 ∷ (arguments call.arguments ++ 41 ∷ []))
