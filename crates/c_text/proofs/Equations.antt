-- What each constructor of a C expression prints, as equations that the printer's proofs rewrite by.
use Rattle.std.proofs.Common.{◌≡◌, ℕ, ℤ, false, ◌+◌, List, [], ◌∷◌, ◌++◌, codes, refl, add-one, ap}
use Rattle.std.specs.Fmt.{signed_decimal}
use Rattle.c_tree.specs.declared.expression.CExpr.{CExpr}
use Rattle.c_tree.specs.declared.expression.CExpr.TheVariants as expr
use Rattle.c_tree.specs.declared.expression.UnaryOp.{UnaryOp}
use Rattle.c_tree.specs.declared.expression.BinaryOp.{BinaryOp}
use Rattle.c_tree.specs.declared.expression.Extreme.{Extreme}
use Rattle.c_tree.specs.declared.types.CastType.{CastType}
use Rattle.c_text.specs.declared.level.Level.TheVariants as level
use Rattle.c_text.specs.Operators.{op_word, op_level, right_level, prefix_word, extreme_word}
use Rattle.c_text.specs.Types.{cast_word}
use Rattle.c_text.specs.Strings.{quoted}
use Rattle.c_text.specs.Expressions.{own_level, doubles, reads_as_one, sign_blank, bare, printed_at}
use Rattle.c_text.specs.Printed.{indent}

pub indent-zero : indent 0 ≡ []
unfolding indent
indent-zero = refl

pub indent-more : (k : ℕ) → indent (k + 1) ≡ indent k ++ codes "    "
unfolding indent
indent-more k = ap indent (add-one k)

pub ruleset indents = (indent-zero, indent-more)

pub bare-Number : (n : ℤ) → bare (expr.Number n) ≡ signed_decimal n
unfolding bare
bare-Number n = refl

pub own_level-Number : (n : ℤ) → own_level (expr.Number n) ≡ level.Primary
unfolding own_level
own_level-Number n = refl

pub bare-Str : (bytes : List ℕ) → bare (expr.Str bytes) ≡ quoted bytes
unfolding bare
bare-Str bytes = refl

pub own_level-Str : (bytes : List ℕ) → own_level (expr.Str bytes) ≡ level.Primary
unfolding own_level
own_level-Str bytes = refl

pub bare-Name : (name : List ℕ) → bare (expr.Name name) ≡ name
unfolding bare
bare-Name name = refl

pub own_level-Name : (name : List ℕ) → own_level (expr.Name name) ≡ level.Primary
unfolding own_level
own_level-Name name = refl

pub bare-Unary : (op : UnaryOp) (e : CExpr) → bare (expr.Unary op e) ≡ prefix_word op ++ (sign_blank (reads_as_one op e) ++ printed_at level.Unary e)
unfolding bare printed_at Rattle.c_tree.specs.declared.expression.CExpr.TheBlock.hidden-the_row-CExpr-0 denote.Hole.Carrier.hidden
bare-Unary op e = refl

pub own_level-Unary : (op : UnaryOp) (e : CExpr) → own_level (expr.Unary op e) ≡ level.Unary
unfolding own_level Rattle.c_tree.specs.declared.expression.CExpr.TheBlock.hidden-the_row-CExpr-0 denote.Hole.Carrier.hidden
own_level-Unary op e = refl

pub bare-Cast : (of : CastType) (e : CExpr) → bare (expr.Cast of e) ≡ 40 ∷ (cast_word of ++ 41 ∷ printed_at level.Unary e)
unfolding bare printed_at Rattle.c_tree.specs.declared.expression.CExpr.TheBlock.hidden-the_row-CExpr-0 denote.Hole.Carrier.hidden
bare-Cast of e = refl

pub own_level-Cast : (of : CastType) (e : CExpr) → own_level (expr.Cast of e) ≡ level.Unary
unfolding own_level Rattle.c_tree.specs.declared.expression.CExpr.TheBlock.hidden-the_row-CExpr-0 denote.Hole.Carrier.hidden
own_level-Cast of e = refl

pub bare-Binary : (op : BinaryOp) (a : CExpr) (b : CExpr) → bare (expr.Binary op a b) ≡ printed_at (op_level op) a ++ (op_word op ++ printed_at (right_level op) b)
unfolding bare printed_at Rattle.c_tree.specs.declared.expression.CExpr.TheBlock.hidden-the_row-CExpr-0 denote.Hole.Carrier.hidden
bare-Binary op a b = refl

pub own_level-Binary : (op : BinaryOp) (a : CExpr) (b : CExpr) → own_level (expr.Binary op a b) ≡ op_level op
unfolding own_level Rattle.c_tree.specs.declared.expression.CExpr.TheBlock.hidden-the_row-CExpr-0 denote.Hole.Carrier.hidden
own_level-Binary op a b = refl

pub bare-Choose : (e : CExpr) (a : CExpr) (b : CExpr) → bare (expr.Choose e a b) ≡ printed_at level.Disjunction e ++ (codes " ? " ++ (bare a ++ (codes " : " ++ bare b)))
unfolding bare printed_at Rattle.c_tree.specs.declared.expression.CExpr.TheBlock.hidden-the_row-CExpr-0 denote.Hole.Carrier.hidden
bare-Choose e a b = refl

pub own_level-Choose : (e : CExpr) (a : CExpr) (b : CExpr) → own_level (expr.Choose e a b) ≡ level.Choice
unfolding own_level Rattle.c_tree.specs.declared.expression.CExpr.TheBlock.hidden-the_row-CExpr-0 denote.Hole.Carrier.hidden
own_level-Choose e a b = refl

pub bare-Index : (e : CExpr) (i : CExpr) → bare (expr.Index e i) ≡ printed_at level.Postfix e ++ (91 ∷ (bare i ++ 93 ∷ []))
unfolding bare printed_at Rattle.c_tree.specs.declared.expression.CExpr.TheBlock.hidden-the_row-CExpr-0 denote.Hole.Carrier.hidden
bare-Index e i = refl

pub own_level-Index : (e : CExpr) (i : CExpr) → own_level (expr.Index e i) ≡ level.Postfix
unfolding own_level Rattle.c_tree.specs.declared.expression.CExpr.TheBlock.hidden-the_row-CExpr-0 denote.Hole.Carrier.hidden
own_level-Index e i = refl

pub bare-Field : (e : CExpr) (name : List ℕ) → bare (expr.Field e name) ≡ printed_at level.Postfix e ++ 46 ∷ name
unfolding bare printed_at Rattle.c_tree.specs.declared.expression.CExpr.TheBlock.hidden-the_row-CExpr-0 denote.Hole.Carrier.hidden
bare-Field e name = refl

pub own_level-Field : (e : CExpr) (name : List ℕ) → own_level (expr.Field e name) ≡ level.Postfix
unfolding own_level Rattle.c_tree.specs.declared.expression.CExpr.TheBlock.hidden-the_row-CExpr-0 denote.Hole.Carrier.hidden
own_level-Field e name = refl

pub bare-SizeInt : bare expr.SizeInt ≡ codes "sizeof(integer)"
unfolding bare
bare-SizeInt = refl

pub own_level-SizeInt : own_level expr.SizeInt ≡ level.Primary
unfolding own_level
own_level-SizeInt = refl

pub bare-MaxMin : (which : Extreme) (a : CExpr) (b : CExpr) → bare (expr.MaxMin which a b) ≡ extreme_word which ++ (bare a ++ (codes ", " ++ (bare b ++ 41 ∷ [])))
unfolding bare printed_at Rattle.c_tree.specs.declared.expression.CExpr.TheBlock.hidden-the_row-CExpr-0 denote.Hole.Carrier.hidden
bare-MaxMin which a b = refl

pub own_level-MaxMin : (which : Extreme) (a : CExpr) (b : CExpr) → own_level (expr.MaxMin which a b) ≡ level.Primary
unfolding own_level Rattle.c_tree.specs.declared.expression.CExpr.TheBlock.hidden-the_row-CExpr-0 denote.Hole.Carrier.hidden
own_level-MaxMin which a b = refl

pub bare-Abs : (e : CExpr) → bare (expr.Abs e) ≡ codes "abs(" ++ (bare e ++ 41 ∷ [])
unfolding bare printed_at Rattle.c_tree.specs.declared.expression.CExpr.TheBlock.hidden-the_row-CExpr-0 denote.Hole.Carrier.hidden
bare-Abs e = refl

pub own_level-Abs : (e : CExpr) → own_level (expr.Abs e) ≡ level.Primary
unfolding own_level Rattle.c_tree.specs.declared.expression.CExpr.TheBlock.hidden-the_row-CExpr-0 denote.Hole.Carrier.hidden
own_level-Abs e = refl

pub ruleset expressions = (bare-Number, own_level-Number, bare-Str, own_level-Str, bare-Name, own_level-Name, bare-Unary, own_level-Unary, bare-Cast, own_level-Cast, bare-Binary, own_level-Binary, bare-Choose, own_level-Choose, bare-Index, own_level-Index, bare-Field, own_level-Field, bare-SizeInt, own_level-SizeInt, bare-MaxMin, own_level-MaxMin, bare-Abs, own_level-Abs)

pub reads_as_one-Number : (op : UnaryOp) (n : ℤ) → reads_as_one op (expr.Number n) ≡ false
unfolding reads_as_one
reads_as_one-Number op n = refl

pub reads_as_one-Str : (op : UnaryOp) (bytes : List ℕ) → reads_as_one op (expr.Str bytes) ≡ false
unfolding reads_as_one
reads_as_one-Str op bytes = refl

pub reads_as_one-Name : (op : UnaryOp) (name : List ℕ) → reads_as_one op (expr.Name name) ≡ false
unfolding reads_as_one
reads_as_one-Name op name = refl

pub reads_as_one-Unary : (op : UnaryOp) (inner : UnaryOp) (e : CExpr) → reads_as_one op (expr.Unary inner e) ≡ doubles op inner
unfolding reads_as_one Rattle.c_tree.specs.declared.expression.CExpr.TheBlock.hidden-the_row-CExpr-0 denote.Hole.Carrier.hidden
reads_as_one-Unary op inner e = refl

pub reads_as_one-Cast : (op : UnaryOp) (of : CastType) (e : CExpr) → reads_as_one op (expr.Cast of e) ≡ false
unfolding reads_as_one Rattle.c_tree.specs.declared.expression.CExpr.TheBlock.hidden-the_row-CExpr-0 denote.Hole.Carrier.hidden
reads_as_one-Cast op of e = refl

pub reads_as_one-Binary : (op : UnaryOp) (sign : BinaryOp) (a : CExpr) (b : CExpr) → reads_as_one op (expr.Binary sign a b) ≡ false
unfolding reads_as_one Rattle.c_tree.specs.declared.expression.CExpr.TheBlock.hidden-the_row-CExpr-0 denote.Hole.Carrier.hidden
reads_as_one-Binary op sign a b = refl

pub reads_as_one-Choose : (op : UnaryOp) (e : CExpr) (a : CExpr) (b : CExpr) → reads_as_one op (expr.Choose e a b) ≡ false
unfolding reads_as_one Rattle.c_tree.specs.declared.expression.CExpr.TheBlock.hidden-the_row-CExpr-0 denote.Hole.Carrier.hidden
reads_as_one-Choose op e a b = refl

pub reads_as_one-Index : (op : UnaryOp) (e : CExpr) (i : CExpr) → reads_as_one op (expr.Index e i) ≡ false
unfolding reads_as_one Rattle.c_tree.specs.declared.expression.CExpr.TheBlock.hidden-the_row-CExpr-0 denote.Hole.Carrier.hidden
reads_as_one-Index op e i = refl

pub reads_as_one-Field : (op : UnaryOp) (e : CExpr) (name : List ℕ) → reads_as_one op (expr.Field e name) ≡ false
unfolding reads_as_one Rattle.c_tree.specs.declared.expression.CExpr.TheBlock.hidden-the_row-CExpr-0 denote.Hole.Carrier.hidden
reads_as_one-Field op e name = refl

pub reads_as_one-SizeInt : (op : UnaryOp) → reads_as_one op expr.SizeInt ≡ false
unfolding reads_as_one
reads_as_one-SizeInt op = refl

pub reads_as_one-MaxMin : (op : UnaryOp) (which : Extreme) (a : CExpr) (b : CExpr) → reads_as_one op (expr.MaxMin which a b) ≡ false
unfolding reads_as_one Rattle.c_tree.specs.declared.expression.CExpr.TheBlock.hidden-the_row-CExpr-0 denote.Hole.Carrier.hidden
reads_as_one-MaxMin op which a b = refl

pub reads_as_one-Abs : (op : UnaryOp) (e : CExpr) → reads_as_one op (expr.Abs e) ≡ false
unfolding reads_as_one Rattle.c_tree.specs.declared.expression.CExpr.TheBlock.hidden-the_row-CExpr-0 denote.Hole.Carrier.hidden
reads_as_one-Abs op e = refl

pub ruleset signs = (reads_as_one-Number, reads_as_one-Str, reads_as_one-Name, reads_as_one-Unary, reads_as_one-Cast, reads_as_one-Binary, reads_as_one-Choose, reads_as_one-Index, reads_as_one-Field, reads_as_one-SizeInt, reads_as_one-MaxMin, reads_as_one-Abs)
