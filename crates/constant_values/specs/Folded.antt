-- The value of an expression by those of its parts, where it has one without a store: what valuing comes to, without its acts and its calls.
-- ANSI X3.9-1978, sections 6 (expressions), 6.7 (constant expressions), 15.4 (statement functions) and 15.10 (intrinsic functions).
use Rattle.std.specs.Prelude.{◌≡◌, List, [], ◌∷◌, ◌++◌, Option, Some, None}
use Rattle.f_tree.specs.declared.names.Class.TheVariants as class
use Rattle.f_tree.specs.declared.expressions.BinaryOp.{BinaryOp}
use Rattle.f_tree.specs.declared.expressions.BinaryOp.TheVariants as op
use Rattle.f_tree.specs.declared.expressions.Expr.{Expr}
use Rattle.f_tree.specs.declared.expressions.Expr.TheOpen as expr
use Rattle.f_tree.specs.Folds.{fold_expr}
use Rattle.f_tree.specs.Values.{Bytes, Datum, IsInt, IsLog, IsText, IsLabel, Checked, Gives, Fails}
use Rattle.f_tree.specs.Terms.{Prefix, Negate, Complement, Operator, Add, Subtract, Multiply, Divide, IsLess, IsLessOrEqual, IsEqual, IsNotEqual, IsGreater, IsGreaterOrEqual, Both, Either, Same, Different, Function, Power, TextLength}
use Rattle.f_tree.specs.Facts.{Attribute}
use Rattle.f_tree.specs.Valuing.{prefixed, operated, Left, Decided, Wants, Wrong, left_of, applied, bound_to}
use Rattle.f_tree.specs.Reading.{function_named}

-- the value over the arguments of the statement function around it
abbrev pub Folded : Type 0
Folded = List Datum → Option Datum

-- what an expression asks of a name: the value of a constant, and the function of an intrinsic
pub record KnownNames : Type 0 where
  pub value : Bytes → Option Datum
  pub function : Bytes → Option Function

unfoldable pub given : {A : Type 0} → Checked A → Option A
given (Gives a) = Some a
given (Fails act) = None

unfoldable pub if_some : {A B : Type 0} → Option A → (A → Option B) → Option B
if_some None go = None
if_some (Some a) go = go a

unfoldable pub all_some : List (Option Datum) → Option (List Datum)
all_some [] = Some []
all_some (v ∷ vs) = if_some v (λ d. if_some (all_some vs) (λ ds. Some (d ∷ ds)))

unfoldable pub worth_of_each : List Datum → List Folded → List (Option Datum)
worth_of_each env [] = []
worth_of_each env (m ∷ ms) = m env ∷ worth_of_each env ms

-- OPERATORS
unfoldable pub prefixed_folded : Prefix → Option Datum → Option Datum
prefixed_folded op v = if_some v (λ d. given (prefixed op d))

unfoldable pub right_folded : Operator → Datum → Left → Option Datum → Option Datum
right_folded op a (Decided d) w = Some d
right_folded op a Wants w = if_some w (λ b. given (operated op a b))
right_folded op a Wrong w = None

unfoldable pub between_folded : Operator → Option Datum → Option Datum → Option Datum
between_folded op v w = if_some v (λ a. right_folded op a (left_of op a) w)

unfoldable pub text_in : Option Datum → Option Bytes
text_in (Some (IsText cs)) = Some cs
text_in _ = None

unfoldable pub both_texts : Option Bytes → Option Bytes → Option Bytes
both_texts (Some a) (Some b) = Some (a ++ b)
both_texts _ _ = None

unfoldable pub as_text : Option Bytes → Option Datum
as_text None = None
as_text (Some cs) = Some (IsText cs)

-- FUNCTIONS
unfoldable pub function_folded : Function → List (Option Datum) → Option Datum
function_folded f vs = if_some (all_some vs) (λ ds. given (applied f ds))

-- LEN has one operand
unfoldable pub asked : Function → List (Option Datum) → List (Option Datum)
asked TextLength (v ∷ []) = v ∷ []
asked TextLength _ = []
asked _ vs = vs

unfoldable pub applied_folded : Option Function → List (Option Datum) → Option Datum
applied_folded None vs = None
applied_folded (Some f) vs = function_folded f (asked f vs)

unfoldable pub binary_folded : BinaryOp → Option Datum → Option Datum → Option Datum
binary_folded op.Power v w = function_folded Power (v ∷ w ∷ [])
binary_folded op.Times v w = between_folded Multiply v w
binary_folded op.Divide v w = between_folded Divide v w
binary_folded op.Plus v w = between_folded Add v w
binary_folded op.Minus v w = between_folded Subtract v w
binary_folded op.Concatenate v w = as_text (both_texts (text_in v) (text_in w))
binary_folded op.Less v w = between_folded IsLess v w
binary_folded op.LessOrEqual v w = between_folded IsLessOrEqual v w
binary_folded op.Equal v w = between_folded IsEqual v w
binary_folded op.NotEqual v w = between_folded IsNotEqual v w
binary_folded op.Greater v w = between_folded IsGreater v w
binary_folded op.GreaterOrEqual v w = between_folded IsGreaterOrEqual v w
binary_folded op.And v w = between_folded Both v w
binary_folded op.Or v w = between_folded Either v w
binary_folded op.Equivalent v w = between_folded Same v w
binary_folded op.NotEquivalent v w = between_folded Different v w

-- one layer of an expression, its parts being valued
unfoldable pub layer_folded : KnownNames → expr.Expr-F Folded → Folded
layer_folded known (expr.Int z) = λ env. Some (IsInt z)
layer_folded known (expr.Logical b) = λ env. Some (IsLog b)
layer_folded known (expr.Text cs) = λ env. Some (IsText cs)
layer_folded known (expr.Name x) = λ env. known.value x
layer_folded known (expr.Apply x ms) = λ env. applied_folded (known.function x) (worth_of_each env ms)
layer_folded known (expr.Part m from to) = λ env. None
layer_folded known (expr.Minus m) = λ env. prefixed_folded Negate (m env)
layer_folded known (expr.Plus m) = m
layer_folded known (expr.Not m) = λ env. prefixed_folded Complement (m env)
layer_folded known (expr.Paren m) = m
layer_folded known (expr.Binary op a b) = λ env. binary_folded op (a env) (b env)
layer_folded known (expr.AltReturn label) = λ env. Some (IsLabel label)
layer_folded known (expr.Bind ms m) = λ env. if_some (all_some (worth_of_each env ms)) m
layer_folded known (expr.Bound k) = λ env. given (bound_to env k)

unfoldable pub folded : KnownNames → Expr → List Datum → Option Datum
folded known e = fold_expr (layer_folded known) e

-- what is known of a name is what its attribute says
unfoldable pub value_given : Attribute → Option Datum
value_given a = elim a.class [ class.Constant ↦ a.constant | _ ↦ None ]

unfoldable pub function_given : Bytes → Attribute → Option Function
function_given x a = elim a.class [ class.Intrinsic ↦ function_named x | _ ↦ None ]

pub record IsKnownAs (x : Bytes) (a : Attribute) (known : KnownNames) : Type 0 where
  pub value : known.value x ≡ value_given a
  pub function : known.function x ≡ function_given x a
  pub expansion : a.expansion ≡ None
