-- The expressions of lowered values have no strings.
use Rattle.std.specs.Prelude.{◌≡◌, ℕ, suc, nat_eq, nat_lt, nat_le, ℤ, pos, negsuc, ◌+ℤ◌, Bool, true, false, List, [], ◌∷◌, ◌++◌, Option, Some, None, option_map, if◌then◌else◌}
use Rattle.std.specs.Ordering.{int_eq}
use Rattle.std.proofs.Common.{refl}
use Rattle.item_emission.specs.f_tree.Values.{Bytes, Datum, IsInt, IsLog}
use Rattle.item_emission.specs.f_tree.Terms as fortran
use Rattle.item_emission.specs.f_tree.CNames.{variable_name, made_name, FunctionResult, NumberTemporary, DimensionOf, LowerBoundOf}
use Rattle.item_emission.specs.l_core.Pures.{Pure, Constant, Temporary, Load, Name, ElementOf, Prefixed, Operated, Applied, Chosen, Pures, NoPure, AndPure}
use Rattle.item_emission.specs.c_tree.Opened.{trees_opened}
use Rattle.item_emission.specs.c_tree.LinkedExpressions.{linked, linked_all}
use Rattle.item_emission.specs.c_tree.declared.types.CastType.{CastType}
use Rattle.item_emission.specs.c_tree.declared.expression.CExpr.{CExpr}
use Rattle.item_emission.specs.c_tree.declared.expression.CExpr.TheVariants as expr
use Rattle.item_emission.specs.c_tree.declared.expression.UnaryOp.{UnaryOp}
use Rattle.item_emission.specs.c_tree.declared.expression.UnaryOp.TheVariants as prefix
use Rattle.item_emission.specs.c_tree.declared.expression.BinaryOp.{BinaryOp}
use Rattle.item_emission.specs.c_tree.declared.expression.BinaryOp.TheVariants as op
use Rattle.item_emission.specs.c_tree.declared.expression.Extreme.{Extreme}
use Rattle.item_emission.specs.c_tree.declared.expression.Extreme.TheVariants as extreme
use Rattle.item_emission.specs.named_items.c_structure.Expressions.{number_expr, with_two, with_three, one_more}
use Rattle.item_emission.specs.named_items.SamePlaces.{number_in}
use Rattle.item_emission.specs.main_file.c_image.Operations.{prefix_for, operator_for}
use Rattle.item_emission.specs.declared.known.Dimension.{Dimension}
use Rattle.item_emission.specs.declared.known.LowerBound.{LowerBound}
use Rattle.item_emission.specs.declared.known.LowerBound.TheVariants as low
use Rattle.item_emission.specs.declared.known.Size.{Size}
use Rattle.item_emission.specs.declared.known.Size.TheVariants as many
use Rattle.item_emission.specs.declared.known.Standing.{Standing}
use Rattle.item_emission.specs.declared.known.Standing.TheVariants.{Own, Parameter, Result}
use Rattle.item_emission.specs.NamedEmission.{Knowledge, negative_expr, constant_expr, datum_expr, is_the_number, added_expr, sum_by, sum_expr, difference_expr, product_expr, sum_of, lower_expr, size_expr, distance_expr, stepped_expr, index_expr, variable_expr, result_object, scalar_expr, element_expr, extreme_expr, first_extreme, alone_expr, remainder_expr, function_expr, applied_expr, expr_if, temporary_object, temporary_expr, value_expr, place_expr, value_exprs}

-- ## Without strings

abbrev pub Plain : CExpr → Type 0
Plain e = (linked e).strings ≡ []

abbrev pub Bare : Option CExpr → Type 0
Bare None = Unit {0}
Bare (Some e) = Plain e

abbrev pub AllPlain : List CExpr → Type 0
AllPlain [] = Unit {0}
AllPlain (e ∷ es) = Plain e × AllPlain es

abbrev pub AllBare : Option (List CExpr) → Type 0
AllBare None = Unit {0}
AllBare (Some es) = AllPlain es

pub all_plain : (es : List CExpr) → AllPlain es → (linked_all es).strings ≡ []
all_plain [] h = refl
all_plain (e ∷ es) h = λ i. h.0 i ++ all_plain es h.1 i

pub unary_plain : (op : UnaryOp) (e : CExpr) → Plain e → Plain (expr.Unary op e)
unfolding trees_opened
unary_plain op e h = h

pub cast_plain : (type : CastType) (e : CExpr) → Plain e → Plain (expr.Cast type e)
unfolding trees_opened
cast_plain type e h = h

abs_plain : (e : CExpr) → Plain e → Plain (expr.Abs e)
unfolding trees_opened
abs_plain e h = h

binary_plain : (op : BinaryOp) (a b : CExpr) → Plain a → Plain b → Plain (expr.Binary op a b)
unfolding trees_opened
binary_plain op a b h g = λ i. h i ++ g i

most_plain : (which : Extreme) (a b : CExpr) → Plain a → Plain b → Plain (expr.MaxMin which a b)
unfolding trees_opened
most_plain which a b h g = λ i. h i ++ g i

index_plain : (a b : CExpr) → Plain a → Plain b → Plain (expr.Index a b)
unfolding trees_opened
index_plain a b h g = λ i. h i ++ g i

choose_plain : (a b c : CExpr) → Plain a → Plain b → Plain c → Plain (expr.Choose a b c)
unfolding trees_opened
choose_plain a b c h g k = λ i. (h i ++ g i) ++ k i

pub name_plain : (name : List ℕ) → Plain (expr.Name name)
unfolding trees_opened
name_plain name = refl

pub written_plain : (z : ℤ) (b : Bool) → Bare (if b then Some (expr.Number z) else None)
unfolding trees_opened
written_plain z true = refl
written_plain z false = tt

one_plain : (z : ℤ) → Plain (expr.Number z)
unfolding trees_opened
one_plain z = refl

pub map_bare : (form : CExpr → CExpr) (x : Option CExpr) → ((e : CExpr) → Plain e → Plain (form e)) → Bare x → Bare (option_map form x)
map_bare form None each h = tt
map_bare form (Some e) each h = each e h

two_bare : (form : CExpr → CExpr → CExpr) (x y : Option CExpr) → ((a b : CExpr) → Plain a → Plain b → Plain (form a b)) → Bare x → Bare y → Bare (with_two form x y)
unfolding with_two
two_bare form None y each h g = tt
two_bare form (Some a) None each h g = tt
two_bare form (Some a) (Some b) each h g = each a b h g

three_bare : (x y z : Option CExpr) → Bare x → Bare y → Bare z → Bare (with_three expr.Choose x y z)
unfolding with_three
three_bare None y z h g k = tt
three_bare (Some a) None z h g k = tt
three_bare (Some a) (Some b) None h g k = tt
three_bare (Some a) (Some b) (Some c) h g k = choose_plain a b c h g k

pub more_bare : (x : Option CExpr) (xs : Option (List CExpr)) → Bare x → AllBare xs → AllBare (one_more x xs)
unfolding one_more
more_bare None xs h g = tt
more_bare (Some e) None h g = tt
more_bare (Some e) (Some es) h g = (h, g)

pub if_bare : (b : Bool) (x : Option CExpr) → Bare x → Bare (expr_if b x)
unfolding expr_if
if_bare true x h = h
if_bare false x h = tt

-- ## Numbers

pub number_bare : (z : ℤ) → Bare (number_expr z)
unfolding number_expr
number_bare (pos n) = written_plain (pos n) (nat_le n 2147483647)
number_bare (negsuc n) = tt

negative_bare : (less : ℕ) → Bare (negative_expr less)
unfolding negative_expr
negative_bare less = by (nat_eq less 2147483647)
  where
    by : (b : Bool) → Bare (if b then Some (expr.Binary op.Subtract (expr.Unary prefix.Minus (expr.Number (pos 2147483647))) (expr.Number (pos 1))) else option_map (expr.Unary prefix.Minus) (number_expr (pos (suc less))))
    by true = binary_plain op.Subtract (expr.Unary prefix.Minus (expr.Number (pos 2147483647))) (expr.Number (pos 1)) (unary_plain prefix.Minus (expr.Number (pos 2147483647)) (one_plain (pos 2147483647))) (one_plain (pos 1))
    by false = map_bare (expr.Unary prefix.Minus) (number_expr (pos (suc less))) (unary_plain prefix.Minus) (number_bare (pos (suc less)))

pub constant_bare : (z : ℤ) → Bare (constant_expr z)
unfolding constant_expr
constant_bare (pos n) = number_bare (pos n)
constant_bare (negsuc less) = negative_bare less

datum_bare : (d : Datum) → Bare (datum_expr d)
unfolding datum_expr
datum_bare (IsInt z) = constant_bare z
datum_bare (IsLog true) = one_plain (pos 1)
datum_bare (IsLog false) = one_plain (pos 0)
datum_bare d = tt

-- ## Elements of arrays

added_plain : (b c : Bool) (x y : CExpr) → Plain x → Plain y → Plain (added_expr b c x y)
unfolding added_expr
added_plain true c x y h g = g
added_plain false true x y h g = h
added_plain false false x y h g = binary_plain op.Add x y h g

sum_bare : (m n : Option ℤ) (a b : CExpr) → Plain a → Plain b → Bare (sum_by m n a b)
unfolding sum_by
sum_bare (Some m) (Some n) a b h g = number_bare (m +ℤ n)
sum_bare (Some m) None a b h g = added_plain (int_eq m (pos 0)) false a b h g
sum_bare None n a b h g = added_plain false (is_the_number (pos 0) n) a b h g

either_plain : (b : Bool) (x y : CExpr) → Plain x → Plain y → Plain (if b then x else y)
either_plain true x y h g = h
either_plain false x y h g = g

difference_plain : (a b : CExpr) → Plain a → Plain b → Plain (difference_expr a b)
unfolding difference_expr
difference_plain a b h g = either_plain (is_the_number (pos 0) (number_in b)) a (expr.Binary op.Subtract a b) h (binary_plain op.Subtract a b h g)

product_plain : (a b : CExpr) → Plain a → Plain b → Plain (product_expr a b)
unfolding product_expr
product_plain a b h g = either_plain (is_the_number (pos 1) (number_in b)) a (expr.Binary op.Multiply a b) h (binary_plain op.Multiply a b h g)

sum_of_bare : (x y : Option CExpr) → Bare x → Bare y → Bare (sum_of x y)
unfolding sum_of sum_expr
sum_of_bare None y h g = tt
sum_of_bare (Some a) None h g = tt
sum_of_bare (Some a) (Some b) h g = sum_bare (number_in a) (number_in b) a b h g

lower_bare : (x : Bytes) (k : ℕ) (lower : LowerBound) → Bare (lower_expr x k lower)
unfolding lower_expr
lower_bare x k (low.Written z) = constant_bare z
lower_bare x k low.Kept = name_plain (made_name (LowerBoundOf (variable_name x) (suc k)))

size_bare : (x : Bytes) (k : ℕ) (size : Size) → Bare (size_expr x k size)
unfolding size_expr
size_bare x k (many.Written n) = number_bare (pos n)
size_bare x k many.Kept = name_plain (made_name (DimensionOf (variable_name x) (suc k)))

distance_bare : (x : Bytes) (k : ℕ) (d : Dimension) (e : CExpr) → Plain e → Bare (distance_expr x k d e)
unfolding distance_expr
distance_bare x k d e h = map_bare (difference_expr e) (lower_expr x k d.lower) (λ f g. difference_plain e f h g) (lower_bare x k d.lower)

stepped_bare : (x : Bytes) (k : ℕ) (d : Dimension) (e : CExpr) (index : Option CExpr) → Plain e → Bare index → Bare (stepped_expr x k d e index)
unfolding stepped_expr
stepped_bare x k d e index h g =
    sum_of_bare (with_two product_expr index (size_expr x k d.size)) (distance_expr x k d e) (two_bare product_expr index (size_expr x k d.size) product_plain g (size_bare x k d.size)) (distance_bare x k d e h)

index_bare : (x : Bytes) (d : ℕ → Dimension) (k : ℕ) (es : List CExpr) → AllPlain es → Bare (index_expr x d k es)
unfolding index_expr
index_bare x d k [] h = number_bare (pos 0)
index_bare x d k (e ∷ []) h = distance_bare x k (d k) e h.0
index_bare x d k (e ∷ next ∷ later) h = stepped_bare x k (d k) e (index_expr x d (suc k) (next ∷ later)) h.0 (index_bare x d (suc k) (next ∷ later) h.1)

pub variable_plain : (x : Bytes) → Plain (variable_expr x)
unfolding variable_expr
variable_plain x = name_plain (variable_name x)

pub scalar_plain : (standing : Standing) (x : Bytes) → Plain (scalar_expr standing x)
unfolding scalar_expr result_object
scalar_plain Own x = variable_plain x
scalar_plain Parameter x = unary_plain prefix.Deref (variable_expr x) (variable_plain x)
scalar_plain Result x = name_plain (made_name FunctionResult)

element_bare : (x : Bytes) (d : ℕ → Dimension) (es : Option (List CExpr)) → AllBare es → Bare (element_expr x d es)
unfolding element_expr
element_bare x d None h = tt
element_bare x d (Some es) h = map_bare (expr.Index (variable_expr x)) (index_expr x d 0 es) (λ e g. index_plain (variable_expr x) e (variable_plain x) g) (index_bare x d 0 es h)

-- ## Functions

extreme_plain : (which : Extreme) (best : CExpr) (es : List CExpr) → Plain best → AllPlain es → Plain (extreme_expr which best es)
unfolding extreme_expr
extreme_plain which best [] h g = h
extreme_plain which best (e ∷ later) h g = extreme_plain which (expr.MaxMin which best e) later (most_plain which best e h g.0) g.1

extreme_bare : (which : Extreme) (es : List CExpr) → AllPlain es → Bare (first_extreme which es)
unfolding first_extreme
extreme_bare which [] h = tt
extreme_bare which (best ∷ later) h = extreme_plain which best later h.0 h.1

alone_bare : (es : List CExpr) → AllPlain es → Bare (alone_expr es)
unfolding alone_expr
alone_bare [] h = tt
alone_bare (a ∷ []) h = h.0
alone_bare (a ∷ b ∷ later) h = tt

remainder_bare : (es : List CExpr) → AllPlain es → Bare (remainder_expr es)
unfolding remainder_expr
remainder_bare [] h = tt
remainder_bare (a ∷ later) h = map_bare (expr.Binary op.Remainder a) (alone_expr later) (λ b g. binary_plain op.Remainder a b h.0 g) (alone_bare later h.1)

function_bare : (f : fortran.Function) (es : List CExpr) → AllPlain es → Bare (function_expr f es)
unfolding function_expr
function_bare fortran.Truncation es h = alone_bare es h
function_bare fortran.Magnitude es h = map_bare expr.Abs (alone_expr es) abs_plain (alone_bare es h)
function_bare fortran.Remainder es h = remainder_bare es h
function_bare fortran.Largest es h = extreme_bare extreme.Max es h
function_bare fortran.Smallest es h = extreme_bare extreme.Min es h
function_bare f es h = tt

applied_bare : (f : fortran.Function) (es : Option (List CExpr)) → AllBare es → Bare (applied_expr f es)
unfolding applied_expr
applied_bare f None h = tt
applied_bare f (Some es) h = function_bare f es h

-- ## Values

pub temporary_bare : (known : Knowledge) (k : ℕ) → Bare (temporary_expr known k)
unfolding temporary_expr temporary_object
temporary_bare known k = if_bare (nat_lt k known.temporaries) _ (name_plain (made_name (NumberTemporary (suc k))))

mutual
  unfolding value_expr place_expr value_exprs

  pub value_bare : (known : Knowledge) (p : Pure) → Bare (value_expr known p)
  value_bare known (Constant d) = datum_bare d
  value_bare known (Temporary k) = temporary_bare known k
  value_bare known (Load p) = place_bare known p
  value_bare known (Prefixed sign p) = map_bare (expr.Unary (prefix_for sign)) (value_expr known p) (unary_plain (prefix_for sign)) (value_bare known p)
  value_bare known (Operated sign p q) = two_bare (expr.Binary (operator_for sign)) (value_expr known p) (value_expr known q) (binary_plain (operator_for sign)) (value_bare known p) (value_bare known q)
  value_bare known (Applied f ps) = applied_bare f (value_exprs known ps) (values_bare known ps)
  value_bare known (Chosen p q r) = three_bare (value_expr known p) (value_expr known q) (value_expr known r) (value_bare known p) (value_bare known q) (value_bare known r)
  value_bare known p = tt

  pub place_bare : (known : Knowledge) (p : Pure) → Bare (place_expr known p)
  place_bare known (Name x) = if_bare (known.is_scalar x) _ (scalar_plain (known.standing x) x)
  place_bare known (ElementOf x ps) = if_bare (known.is_array x) (element_expr x (known.dimension x) (value_exprs known ps)) (element_bare x (known.dimension x) (value_exprs known ps) (values_bare known ps))
  place_bare known p = tt

  pub values_bare : (known : Knowledge) (ps : Pures) → AllBare (value_exprs known ps)
  values_bare known NoPure = tt
  values_bare known (AndPure p ps) = more_bare (value_expr known p) (value_exprs known ps) (value_bare known p) (values_bare known ps)
