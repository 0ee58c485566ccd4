-- The expression of each form of a value.
use Rattle.std.proofs.Common.{◌≡◌, ℕ, List, [], ◌∷◌, Some, None, ap}
use Rattle.std.specs.Prelude.{option_map}
use Rattle.f_tree.specs.Values.{Bytes}
use Rattle.c_tree.specs.declared.expression.CExpr.TheVariants as expr
use Rattle.c_structure.specs.Expressions.{with_two, with_three, one_more}
use Rattle.c_emit.specs.c_image.Operations.{prefix_for, operator_for}
use Rattle.lowered_tree.specs.declared.pures.Literal.{Literal}
use Rattle.lowered_tree.specs.declared.pures.Prefix.{Prefix}
use Rattle.lowered_tree.specs.declared.pures.Operator.{Operator}
use Rattle.lowered_tree.specs.declared.pures.Function.{Function}
use Rattle.lowered_tree.specs.declared.pures.Pure.{Pure}
use Rattle.lowered_tree.specs.declared.pures.Pure as tree
use Rattle.lowered_tree.specs.Shapes.{datum_of, prefix_of, operator_of, function_of, pure_of, pures_of}
use Rattle.lowered_tree.proofs.ShapeForms.{pure-Constant, pure-Temporary, pure-Load, pure-Name, pure-AllOf, pure-ElementOf, pure-FirstOf, pure-Substring, pure-Concatenated, pure-Prefixed, pure-Operated, pure-Applied, pure-Chosen, pures-none, pures-more}
use Rattle.item_emission.specs.NamedEmission.{Knowledge, datum_expr, temporary_expr, scalar_expr, element_expr, applied_expr, expr_if, value_expr, place_expr, value_exprs}

pub value-Constant : (known : Knowledge) (d : Literal) → value_expr known (pure_of (tree.Constant d)) ≡ datum_expr (datum_of d)
unfolding value_expr
value-Constant known d = ap (value_expr known) (pure-Constant d)

pub value-Temporary : (known : Knowledge) (k : ℕ) → value_expr known (pure_of (tree.Temporary k)) ≡ temporary_expr known k
unfolding value_expr
value-Temporary known k = ap (value_expr known) (pure-Temporary k)

pub value-Load : (known : Knowledge) (p : Pure) → value_expr known (pure_of (tree.Load p)) ≡ place_expr known (pure_of p)
unfolding value_expr
value-Load known p = ap (value_expr known) (pure-Load p)

pub value-Name : (known : Knowledge) (x : Bytes) → value_expr known (pure_of (tree.Name x)) ≡ None
unfolding value_expr
value-Name known x = ap (value_expr known) (pure-Name x)

pub value-AllOf : (known : Knowledge) (x : Bytes) → value_expr known (pure_of (tree.AllOf x)) ≡ None
unfolding value_expr
value-AllOf known x = ap (value_expr known) (pure-AllOf x)

pub value-ElementOf : (known : Knowledge) (x : Bytes) (ps : List Pure) → value_expr known (pure_of (tree.ElementOf x ps)) ≡ None
unfolding value_expr
value-ElementOf known x ps = ap (value_expr known) (pure-ElementOf x ps)

pub value-FirstOf : (known : Knowledge) (p : Pure) → value_expr known (pure_of (tree.FirstOf p)) ≡ None
unfolding value_expr
value-FirstOf known p = ap (value_expr known) (pure-FirstOf p)

pub value-Substring : (known : Knowledge) (x : Bytes) (p a b : Pure) → value_expr known (pure_of (tree.Substring x p a b)) ≡ None
unfolding value_expr
value-Substring known x p a b = ap (value_expr known) (pure-Substring x p a b)

pub value-Concatenated : (known : Knowledge) (ps : List Pure) → value_expr known (pure_of (tree.Concatenated ps)) ≡ None
unfolding value_expr
value-Concatenated known ps = ap (value_expr known) (pure-Concatenated ps)

pub value-Prefixed : (known : Knowledge) (sign : Prefix) (p : Pure) → value_expr known (pure_of (tree.Prefixed sign p)) ≡ option_map (expr.Unary (prefix_for (prefix_of sign))) (value_expr known (pure_of p))
unfolding value_expr
value-Prefixed known sign p = ap (value_expr known) (pure-Prefixed sign p)

pub value-Operated : (known : Knowledge) (sign : Operator) (p q : Pure) → value_expr known (pure_of (tree.Operated sign p q)) ≡ with_two (expr.Binary (operator_for (operator_of sign))) (value_expr known (pure_of p)) (value_expr known (pure_of q))
unfolding value_expr
value-Operated known sign p q = ap (value_expr known) (pure-Operated sign p q)

pub value-Applied : (known : Knowledge) (f : Function) (ps : List Pure) → value_expr known (pure_of (tree.Applied f ps)) ≡ applied_expr (function_of f) (value_exprs known (pures_of ps))
unfolding value_expr
value-Applied known f ps = ap (value_expr known) (pure-Applied f ps)

pub value-Chosen : (known : Knowledge) (p a b : Pure) → value_expr known (pure_of (tree.Chosen p a b)) ≡ with_three expr.Choose (value_expr known (pure_of p)) (value_expr known (pure_of a)) (value_expr known (pure_of b))
unfolding value_expr
value-Chosen known p a b = ap (value_expr known) (pure-Chosen p a b)

pub place-Constant : (known : Knowledge) (d : Literal) → place_expr known (pure_of (tree.Constant d)) ≡ None
unfolding place_expr
place-Constant known d = ap (place_expr known) (pure-Constant d)

pub place-Temporary : (known : Knowledge) (k : ℕ) → place_expr known (pure_of (tree.Temporary k)) ≡ None
unfolding place_expr
place-Temporary known k = ap (place_expr known) (pure-Temporary k)

pub place-Load : (known : Knowledge) (p : Pure) → place_expr known (pure_of (tree.Load p)) ≡ None
unfolding place_expr
place-Load known p = ap (place_expr known) (pure-Load p)

pub place-Name : (known : Knowledge) (x : Bytes) → place_expr known (pure_of (tree.Name x)) ≡ expr_if (known.is_scalar x) (Some (scalar_expr (known.standing x) x))
unfolding place_expr
place-Name known x = ap (place_expr known) (pure-Name x)

pub place-AllOf : (known : Knowledge) (x : Bytes) → place_expr known (pure_of (tree.AllOf x)) ≡ None
unfolding place_expr
place-AllOf known x = ap (place_expr known) (pure-AllOf x)

pub place-ElementOf : (known : Knowledge) (x : Bytes) (ps : List Pure) → place_expr known (pure_of (tree.ElementOf x ps)) ≡ expr_if (known.is_array x) (element_expr x (known.dimension x) (value_exprs known (pures_of ps)))
unfolding place_expr
place-ElementOf known x ps = ap (place_expr known) (pure-ElementOf x ps)

pub place-FirstOf : (known : Knowledge) (p : Pure) → place_expr known (pure_of (tree.FirstOf p)) ≡ None
unfolding place_expr
place-FirstOf known p = ap (place_expr known) (pure-FirstOf p)

pub place-Substring : (known : Knowledge) (x : Bytes) (p a b : Pure) → place_expr known (pure_of (tree.Substring x p a b)) ≡ None
unfolding place_expr
place-Substring known x p a b = ap (place_expr known) (pure-Substring x p a b)

pub place-Concatenated : (known : Knowledge) (ps : List Pure) → place_expr known (pure_of (tree.Concatenated ps)) ≡ None
unfolding place_expr
place-Concatenated known ps = ap (place_expr known) (pure-Concatenated ps)

pub place-Prefixed : (known : Knowledge) (sign : Prefix) (p : Pure) → place_expr known (pure_of (tree.Prefixed sign p)) ≡ None
unfolding place_expr
place-Prefixed known sign p = ap (place_expr known) (pure-Prefixed sign p)

pub place-Operated : (known : Knowledge) (sign : Operator) (p q : Pure) → place_expr known (pure_of (tree.Operated sign p q)) ≡ None
unfolding place_expr
place-Operated known sign p q = ap (place_expr known) (pure-Operated sign p q)

pub place-Applied : (known : Knowledge) (f : Function) (ps : List Pure) → place_expr known (pure_of (tree.Applied f ps)) ≡ None
unfolding place_expr
place-Applied known f ps = ap (place_expr known) (pure-Applied f ps)

pub place-Chosen : (known : Knowledge) (p a b : Pure) → place_expr known (pure_of (tree.Chosen p a b)) ≡ None
unfolding place_expr
place-Chosen known p a b = ap (place_expr known) (pure-Chosen p a b)

pub values-none : (known : Knowledge) → value_exprs known (pures_of []) ≡ Some []
unfolding value_exprs
values-none known = ap (value_exprs known) pures-none

pub values-more : (known : Knowledge) (p : Pure) (ps : List Pure) → value_exprs known (pures_of (p ∷ ps)) ≡ one_more (value_expr known (pure_of p)) (value_exprs known (pures_of ps))
unfolding value_exprs
values-more known p ps = ap (value_exprs known) (pures-more p ps)

pub ruleset value_forms = (value-Constant, value-Temporary, value-Load, value-Name, value-AllOf, value-ElementOf, value-FirstOf, value-Substring, value-Concatenated, value-Prefixed, value-Operated, value-Applied, value-Chosen)

pub ruleset place_forms = (place-Constant, place-Temporary, place-Load, place-Name, place-AllOf, place-ElementOf, place-FirstOf, place-Substring, place-Concatenated, place-Prefixed, place-Operated, place-Applied, place-Chosen)
