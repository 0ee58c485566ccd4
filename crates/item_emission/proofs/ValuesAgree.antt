-- The expressions of lowered values by names are those of their linked expressions.
use Rattle.std.specs.Prelude.{◌≡◌, ℕ, suc, nat_lt, Bool, true, false, List, [], ◌∷◌, Option, Some, None, option_map, option_and_then}
use Rattle.std.proofs.Common.{refl, sym, ap, ◌∙◌}
use Rattle.main_file.specs.f_tree.Values.{Bytes}
use Rattle.main_file.specs.f_tree.Terms as fortran
use Rattle.main_file.specs.f_tree.CNames.{made_name, NumberTemporary}
use Rattle.main_file.specs.l_core.Pures.{Pure, Constant, Temporary, Load, Name, AllOf, ElementOf, FirstOf, Substring, Concatenated, Prefixed, Operated, Applied, Chosen, Pures, NoPure, AndPure}
use Rattle.c_tree.specs.declared.expression.CExpr.{CExpr}
use Rattle.c_tree.specs.declared.expression.CExpr.TheVariants as expr
use Rattle.c_tree.specs.declared.expression.BinaryOp.TheVariants as op
use Rattle.c_tree.specs.declared.expression.Extreme.{Extreme}
use Rattle.c_tree.specs.declared.expression.Extreme.TheVariants as extreme
use Rattle.c_tree.specs.Access.{ToNumber}
use Rattle.c_tree.specs.Terms as c
use Rattle.c_tree.specs.Terms.{Term}
use Rattle.named_items.specs.c_structure.Expressions.{Names, with_two, with_three, expr_for, one_more, exprs_for}
use Rattle.main_file.specs.c_image.Addresses.{number_term, element_term}
use Rattle.main_file.specs.c_image.Elements.{quantity_term, index_term, difference_term, product_term}
use Rattle.main_file.specs.c_image.Operations.{prefix_for, operator_for, extreme_term, function_term}
use Rattle.main_file.specs.c_emit.Numbers as emit
use Rattle.main_file.specs.c_emit.Numbers.{Writing, is_scalar, is_array, steps_from, element_value, applied_value, if_number, value_term, place_term, value_terms}
use Rattle.item_emission.specs.declared.known.Dimension.{Dimension}
use Rattle.item_emission.specs.NamedEmission.{Knowledge, difference_expr, product_expr, sum_of, lower_expr, size_expr, distance_expr, stepped_expr, index_expr, variable_expr, scalar_expr, element_expr, extreme_expr, first_extreme, alone_expr, remainder_expr, function_expr, applied_expr, expr_if, temporary_object, temporary_expr, value_expr, place_expr, value_exprs}
use Rattle.item_emission.proofs.TermNumbers.{datum-agrees, difference-agrees, product-agrees, sum-agrees}

-- what is known is what the names and the facts say
pub record IsKnownBy (names : Names) (w : Writing) (known : Knowledge) : Type 0 where
  pub scalars : (x : Bytes) → is_scalar w x ≡ known.is_scalar x
  pub arrays : (x : Bytes) → is_array w x ≡ known.is_array x
  pub temporaries : (k : ℕ) → w.is_number k ≡ nat_lt k known.temporaries
  pub scalar_names : (x : Bytes) → known.is_scalar x ≡ true → expr_for names (number_term (w.naming.address x)) ≡ Some (scalar_expr (known.standing x) x)
  pub array_names : (x : Bytes) → known.is_array x ≡ true → (index : Term) → expr_for names (element_term (w.naming.address x) index) ≡ option_map (expr.Index (variable_expr x)) (expr_for names index)
  pub temporary_names : (k : ℕ) → nat_lt k known.temporaries ≡ true → names.object (w.naming.temporary k) ≡ made_name (NumberTemporary (suc k))
  pub lowers : (x : Bytes) (k : ℕ) → expr_for names (quantity_term (w.naming.lower x k)) ≡ lower_expr x k (known.dimension x k).lower
  pub sizes : (x : Bytes) (k : ℕ) → expr_for names (quantity_term (w.naming.size x k)) ≡ size_expr x k (known.dimension x k).size

abbrev pub expr_of : Names → Option Term → Option CExpr
expr_of names o = option_and_then (expr_for names) o

abbrev pub exprs_of : Names → Option (List Term) → Option (List CExpr)
exprs_of names o = option_and_then (exprs_for names) o

-- ## Forms of options

two-none : (g : CExpr → CExpr → CExpr) (o : Option CExpr) → with_two g o None ≡ None
unfolding with_two
two-none g None = refl
two-none g (Some e) = refl

three-none : (g : CExpr → CExpr → CExpr → CExpr) (o p : Option CExpr) → with_three g o p None ≡ None
unfolding with_three
three-none g None p = refl
three-none g (Some e) None = refl
three-none g (Some e) (Some f) = refl

three-middle : (g : CExpr → CExpr → CExpr → CExpr) (o p : Option CExpr) → with_three g o None p ≡ None
unfolding with_three
three-middle g None p = refl
three-middle g (Some e) p = refl

more-none : (o : Option CExpr) → one_more o None ≡ None
unfolding one_more
more-none None = refl
more-none (Some e) = refl

sum-none : (o : Option CExpr) → sum_of o None ≡ None
unfolding sum_of
sum-none None = refl
sum-none (Some e) = refl

two-map : (g : CExpr → CExpr → CExpr) (e : CExpr) (o : Option CExpr) → with_two g (Some e) o ≡ option_map (g e) o
unfolding with_two
two-map g e None = refl
two-map g e (Some f) = refl

mapped-agrees : (names : Names) (f : Term → Term) (g : CExpr → CExpr) → ((t : Term) → expr_for names (f t) ≡ option_map g (expr_for names t)) → (o : Option Term) → expr_of names (option_map f o) ≡ option_map g (expr_of names o)
mapped-agrees names f g h None = refl
mapped-agrees names f g h (Some t) = h t

two-agrees : (names : Names) (f : Term → Term → Term) (g : CExpr → CExpr → CExpr) → ((t u : Term) → expr_for names (f t u) ≡ with_two g (expr_for names t) (expr_for names u)) → (o p : Option Term)
    → expr_of names (emit.with_two f o p) ≡ with_two g (expr_of names o) (expr_of names p)
unfolding with_two emit.with_two
two-agrees names f g h (Some t) (Some u) = h t u
two-agrees names f g h (Some t) None = sym (two-none g (expr_for names t))
two-agrees names f g h None p = refl

three-agrees : (names : Names) (f : Term → Term → Term → Term) (g : CExpr → CExpr → CExpr → CExpr)
    → ((t u v : Term) → expr_for names (f t u v) ≡ with_three g (expr_for names t) (expr_for names u) (expr_for names v)) → (o p q : Option Term)
    → expr_of names (emit.with_three f o p q) ≡ with_three g (expr_of names o) (expr_of names p) (expr_of names q)
unfolding with_three emit.with_three
three-agrees names f g h (Some t) (Some u) (Some v) = h t u v
three-agrees names f g h (Some t) (Some u) None = sym (three-none g (expr_for names t) (expr_for names u))
three-agrees names f g h (Some t) None q = sym (three-middle g (expr_for names t) (expr_of names q))
three-agrees names f g h None p q = refl

pub more-agrees : (names : Names) (o : Option Term) (os : Option (List Term)) → exprs_of names (emit.one_more o os) ≡ one_more (expr_of names o) (exprs_of names os)
unfolding one_more emit.one_more exprs_for
more-agrees names (Some t) (Some ts) = refl
more-agrees names (Some t) None = sym (more-none (expr_for names t))
more-agrees names None os = refl

-- ## Functions

single : (f : fortran.Function) (g : CExpr → Option CExpr) → ((e : CExpr) → function_expr f (e ∷ []) ≡ g e) → (o : Option CExpr) → option_and_then g o ≡ applied_expr f (one_more o (Some []))
unfolding one_more applied_expr
single f g h None = refl
single f g h (Some e) = sym (h e)

many : (f : fortran.Function) → ((e a : CExpr) (es : List CExpr) → function_expr f (e ∷ a ∷ es) ≡ None) → (o p : Option CExpr) (os : Option (List CExpr)) → None ≡ applied_expr f (one_more o (one_more p os))
unfolding one_more applied_expr
many f h None p os = refl
many f h (Some e) None os = refl
many f h (Some e) (Some a) None = refl
many f h (Some e) (Some a) (Some es) = sym (h e a es)

no-function : (f : fortran.Function) → ((es : List CExpr) → function_expr f es ≡ None) → (o : Option (List CExpr)) → None ≡ applied_expr f o
unfolding applied_expr
no-function f h None = refl
no-function f h (Some es) = sym (h es)

itself : (o : Option CExpr) → o ≡ option_and_then (λ e. Some e) o
itself None = refl
itself (Some e) = refl

mapped-by : (g : CExpr → CExpr) (o : Option CExpr) → option_map g o ≡ option_and_then (λ e. Some (g e)) o
mapped-by g None = refl
mapped-by g (Some e) = refl

remainder-by : (o p : Option CExpr) → with_two (expr.Binary op.Remainder) o p ≡ applied_expr fortran.Remainder (one_more o (one_more p (Some [])))
unfolding with_two one_more applied_expr function_expr remainder_expr alone_expr
remainder-by None p = refl
remainder-by (Some e) None = refl
remainder-by (Some e) (Some a) = refl

remainder-alone : (o : Option CExpr) → None ≡ applied_expr fortran.Remainder (one_more o (Some []))
unfolding one_more applied_expr function_expr remainder_expr alone_expr
remainder-alone None = refl
remainder-alone (Some e) = refl

remainder-many : (o p q : Option CExpr) (os : Option (List CExpr)) → None ≡ applied_expr fortran.Remainder (one_more o (one_more p (one_more q os)))
unfolding one_more applied_expr function_expr remainder_expr alone_expr
remainder-many None p q os = refl
remainder-many (Some e) None q os = refl
remainder-many (Some e) (Some a) None os = refl
remainder-many (Some e) (Some a) (Some x) None = refl
remainder-many (Some e) (Some a) (Some x) (Some es) = refl

unfoldable extreme_of : Extreme → Option CExpr → Option (List CExpr) → Option CExpr
extreme_of which (Some e) (Some es) = Some (extreme_expr which e es)
extreme_of which _ _ = None

extreme-end : (which : Extreme) (o : Option CExpr) → o ≡ extreme_of which o (Some [])
unfolding extreme_of extreme_expr
extreme-end which None = refl
extreme-end which (Some e) = refl

extreme-on : (which : Extreme) (o p : Option CExpr) (os : Option (List CExpr)) → extreme_of which (with_two (expr.MaxMin which) o p) os ≡ extreme_of which o (one_more p os)
unfolding extreme_of extreme_expr with_two one_more
extreme-on which None p os = refl
extreme-on which (Some e) None os = refl
extreme-on which (Some e) (Some a) None = refl
extreme-on which (Some e) (Some a) (Some es) = refl

extreme-agrees : (names : Names) (which : Extreme) (best : Term) (later : List Term) → expr_for names (extreme_term which best later) ≡ extreme_of which (expr_for names best) (exprs_for names later)
unfolding exprs_for expr_for
extreme-agrees names which best [] = extreme-end which (expr_for names best)
extreme-agrees names which best (t ∷ later) = extreme-agrees names which (c.Most which best t) later ∙ extreme-on which (expr_for names best) (expr_for names t) (exprs_for names later)

largest : (o : Option CExpr) (os : Option (List CExpr)) → extreme_of extreme.Max o os ≡ applied_expr fortran.Largest (one_more o os)
unfolding extreme_of one_more applied_expr function_expr first_extreme
largest None os = refl
largest (Some e) None = refl
largest (Some e) (Some es) = refl

smallest : (o : Option CExpr) (os : Option (List CExpr)) → extreme_of extreme.Min o os ≡ applied_expr fortran.Smallest (one_more o os)
unfolding extreme_of one_more applied_expr function_expr first_extreme
smallest None os = refl
smallest (Some e) None = refl
smallest (Some e) (Some es) = refl

function-agrees : (names : Names) (f : fortran.Function) (ts : List Term) → expr_of names (function_term f ts) ≡ applied_expr f (exprs_for names ts)
unfolding expr_for exprs_for applied_expr function_expr alone_expr remainder_expr first_extreme
function-agrees names fortran.Truncation [] = refl
function-agrees names fortran.Truncation (a ∷ []) = itself (expr_for names a) ∙ single fortran.Truncation (λ e. Some e) (λ e. refl) (expr_for names a)
function-agrees names fortran.Truncation (a ∷ t ∷ ts) = many fortran.Truncation (λ e x es. refl) (expr_for names a) (expr_for names t) (exprs_for names ts)
function-agrees names fortran.Magnitude [] = refl
function-agrees names fortran.Magnitude (a ∷ []) = mapped-by expr.Abs (expr_for names a) ∙ single fortran.Magnitude (λ e. Some (expr.Abs e)) (λ e. refl) (expr_for names a)
function-agrees names fortran.Magnitude (a ∷ t ∷ ts) = many fortran.Magnitude (λ e x es. refl) (expr_for names a) (expr_for names t) (exprs_for names ts)
function-agrees names fortran.Remainder [] = refl
function-agrees names fortran.Remainder (a ∷ []) = remainder-alone (expr_for names a)
function-agrees names fortran.Remainder (a ∷ t ∷ []) = remainder-by (expr_for names a) (expr_for names t)
function-agrees names fortran.Remainder (a ∷ t ∷ u ∷ ts) = remainder-many (expr_for names a) (expr_for names t) (expr_for names u) (exprs_for names ts)
function-agrees names fortran.Largest [] = refl
function-agrees names fortran.Largest (a ∷ later) = extreme-agrees names extreme.Max a later ∙ largest (expr_for names a) (exprs_for names later)
function-agrees names fortran.Smallest [] = refl
function-agrees names fortran.Smallest (a ∷ later) = extreme-agrees names extreme.Min a later ∙ smallest (expr_for names a) (exprs_for names later)
function-agrees names f ts = no-function f (λ es. refl) (exprs_for names ts)

applied-agrees : (names : Names) (f : fortran.Function) (o : Option (List Term)) → expr_of names (applied_value (function_term f) o) ≡ applied_expr f (exprs_of names o)
unfolding applied_value applied_expr
applied-agrees names f None = refl
applied-agrees names f (Some ts) = function-agrees names f ts

-- ## Elements

unfoldable index_of : Bytes → (ℕ → Dimension) → ℕ → Option (List CExpr) → Option CExpr
index_of x d k None = None
index_of x d k (Some es) = index_expr x d k es

index-last : (x : Bytes) (d : ℕ → Dimension) (k : ℕ) (o : Option CExpr) → with_two difference_expr o (lower_expr x k (d k).lower) ≡ index_of x d k (one_more o (Some []))
unfolding index_of one_more index_expr distance_expr with_two
index-last x d k None = refl
index-last x d k (Some e) = two-map difference_expr e (lower_expr x k (d k).lower)

index-more : (x : Bytes) (d : ℕ → Dimension) (k : ℕ) (o p : Option CExpr) (os : Option (List CExpr))
    → sum_of (with_two product_expr (index_of x d (suc k) (one_more p os)) (size_expr x k (d k).size)) (with_two difference_expr o (lower_expr x k (d k).lower)) ≡ index_of x d k (one_more o (one_more p os))
unfolding index_of one_more index_expr stepped_expr distance_expr with_two sum_of
index-more x d k None p os = sum-none (with_two product_expr (index_of x d (suc k) (one_more p os)) (size_expr x k (d k).size))
index-more x d k (Some e) None os = refl
index-more x d k (Some e) (Some a) None = refl
index-more x d k (Some e) (Some a) (Some es) =
    ap (sum_of (with_two product_expr (index_expr x d (suc k) (a ∷ es)) (size_expr x k (d k).size))) (two-map difference_expr e (lower_expr x k (d k).lower))

element-by : (x : Bytes) (d : ℕ → Dimension) (o : Option (List CExpr)) → option_map (expr.Index (variable_expr x)) (index_of x d 0 o) ≡ element_expr x d o
unfolding index_of element_expr
element-by x d None = refl
element-by x d (Some es) = refl

module _ (names : Names) (w : Writing) (known : Knowledge) (agrees : IsKnownBy names w known) where
  index-agrees : (x : Bytes) (k : ℕ) (ts : List Term) → expr_for names (index_term (steps_from w.naming x k ts)) ≡ index_of x (known.dimension x) k (exprs_for names ts)
  unfolding steps_from exprs_for index_of index_expr expr_for
  index-agrees x k [] = refl
  index-agrees x k (t ∷ []) =
      difference-agrees names t (quantity_term (w.naming.lower x k)) ∙ ap (with_two difference_expr (expr_for names t)) (agrees.lowers x k) ∙ index-last x (known.dimension x) k (expr_for names t)
  index-agrees x k (t ∷ u ∷ ts) =
      let later = index_term (steps_from w.naming x (suc k) (u ∷ ts)) in
      let size = quantity_term (w.naming.size x k) in
      let lower = quantity_term (w.naming.lower x k) in
      sum-agrees names (product_term later size) (difference_term t lower)
      ∙ (λ i. sum_of (product-agrees names later size i) (difference-agrees names t lower i))
      ∙ (λ i. sum_of (with_two product_expr (index-agrees x (suc k) (u ∷ ts) i) (agrees.sizes x k i)) (with_two difference_expr (expr_for names t) (agrees.lowers x k i)))
      ∙ index-more x (known.dimension x) k (expr_for names t) (expr_for names u) (exprs_for names ts)

  element-of : (x : Bytes) → known.is_array x ≡ true → (o : Option (List Term)) → expr_of names (element_value w.naming x o) ≡ element_expr x (known.dimension x) (exprs_of names o)
  unfolding element_value element_expr
  element-of x there None = refl
  element-of x there (Some ts) =
      agrees.array_names x there (index_term (steps_from w.naming x 0 ts))
      ∙ ap (option_map (expr.Index (variable_expr x))) (index-agrees x 0 ts)
      ∙ element-by x (known.dimension x) (exprs_for names ts)

  array-agrees : (x : Bytes) (o : Option (List Term)) → expr_of names (if_number (is_array w x) (element_value w.naming x o)) ≡ expr_if (known.is_array x) (element_expr x (known.dimension x) (exprs_of names o))
  unfolding if_number expr_if
  array-agrees x o = ap (λ t. expr_of names (if_number t (element_value w.naming x o))) (agrees.arrays x) ∙ by (known.is_array x) refl
    where
      by : (t : Bool) → known.is_array x ≡ t → expr_of names (if_number t (element_value w.naming x o)) ≡ expr_if t (element_expr x (known.dimension x) (exprs_of names o))
      by true h = element-of x h o
      by false h = refl

  scalar-agrees : (x : Bytes) → expr_of names (if_number (is_scalar w x) (Some (number_term (w.naming.address x)))) ≡ expr_if (known.is_scalar x) (Some (scalar_expr (known.standing x) x))
  unfolding if_number expr_if
  scalar-agrees x = ap (λ t. expr_of names (if_number t (Some (number_term (w.naming.address x))))) (agrees.scalars x) ∙ by (known.is_scalar x) refl
    where
      by : (t : Bool) → known.is_scalar x ≡ t → expr_of names (if_number t (Some (number_term (w.naming.address x)))) ≡ expr_if t (Some (scalar_expr (known.standing x) x))
      by true h = agrees.scalar_names x h
      by false h = refl

  pub temporary-agrees : (k : ℕ) → expr_of names (if_number (w.is_number k) (Some (c.Variable (w.naming.temporary k) ToNumber))) ≡ temporary_expr known k
  unfolding if_number expr_if temporary_expr temporary_object expr_for
  temporary-agrees k = ap (λ t. expr_of names (if_number t (Some (c.Variable (w.naming.temporary k) ToNumber)))) (agrees.temporaries k) ∙ by (nat_lt k known.temporaries) refl
    where
      by : (t : Bool) → nat_lt k known.temporaries ≡ t → expr_of names (if_number t (Some (c.Variable (w.naming.temporary k) ToNumber))) ≡ expr_if t (Some (temporary_object k))
      by true h = ap (λ name. Some (expr.Name name)) (agrees.temporary_names k h)
      by false h = refl

  mutual
    unfolding value_term place_term value_terms value_expr place_expr value_exprs expr_for exprs_for

    pub value-agrees : (p : Pure) → expr_of names (value_term w p) ≡ value_expr known p
    value-agrees (Constant d) = datum-agrees names d
    value-agrees (Temporary k) = temporary-agrees k
    value-agrees (Load p) = place-agrees p
    value-agrees (Prefixed sign p) = mapped-agrees names (c.Prefixed (prefix_for sign)) (expr.Unary (prefix_for sign)) (λ t. refl) (value_term w p) ∙ ap (option_map (expr.Unary (prefix_for sign))) (value-agrees p)
    value-agrees (Operated sign p q) =
        two-agrees names (c.Between (operator_for sign)) (expr.Binary (operator_for sign)) (λ t u. refl) (value_term w p) (value_term w q)
        ∙ (λ i. with_two (expr.Binary (operator_for sign)) (value-agrees p i) (value-agrees q i))
    value-agrees (Applied f ps) = applied-agrees names f (value_terms w ps) ∙ ap (applied_expr f) (values-agrees ps)
    value-agrees (Chosen p q r) =
        three-agrees names c.Choice expr.Choose (λ t u v. refl) (value_term w p) (value_term w q) (value_term w r)
        ∙ (λ i. with_three expr.Choose (value-agrees p i) (value-agrees q i) (value-agrees r i))
    value-agrees (Name x) = refl
    value-agrees (AllOf x) = refl
    value-agrees (ElementOf x ps) = refl
    value-agrees (FirstOf p) = refl
    value-agrees (Substring x p q r) = refl
    value-agrees (Concatenated ps) = refl

    pub place-agrees : (p : Pure) → expr_of names (place_term w p) ≡ place_expr known p
    place-agrees (Name x) = scalar-agrees x
    place-agrees (ElementOf x ps) = array-agrees x (value_terms w ps) ∙ ap (λ o. expr_if (known.is_array x) (element_expr x (known.dimension x) o)) (values-agrees ps)
    place-agrees (Constant d) = refl
    place-agrees (Temporary k) = refl
    place-agrees (Load p) = refl
    place-agrees (AllOf x) = refl
    place-agrees (FirstOf p) = refl
    place-agrees (Substring x p q r) = refl
    place-agrees (Concatenated ps) = refl
    place-agrees (Prefixed sign p) = refl
    place-agrees (Operated sign p q) = refl
    place-agrees (Applied f ps) = refl
    place-agrees (Chosen p q r) = refl

    values-agrees : (ps : Pures) → exprs_of names (value_terms w ps) ≡ value_exprs known ps
    values-agrees NoPure = refl
    values-agrees (AndPure p ps) = more-agrees names (value_term w p) (value_terms w ps) ∙ (λ i. one_more (value-agrees p i) (values-agrees ps i))
