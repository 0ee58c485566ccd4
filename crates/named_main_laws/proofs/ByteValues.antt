-- The strings of the items that steps have by names are the texts of STOP statements.
use Rattle.std.specs.List.{list_all}
use Rattle.std.specs.Prelude.{◌≡◌, ℕ, zero, suc, ◌+◌, ◌-◌, nat_eq, nat_le, nat_lt, ℤ, pos, negsuc, ◌+ℤ◌, Bool, true, false, ◌&&◌, List, [], ◌∷◌, map, length, Option, Some, None, option_map, option_and_then, if◌then◌else◌}
use Rattle.std.specs.Ordering.{int_eq}
use Rattle.std.proofs.Common.{refl}
use Rattle.named_mains.specs.f_tree.Values.{Bytes, Datum, IsInt, IsLog, IsLabel, in_range}
use Rattle.named_mains.specs.f_tree.Terms as fortran
use Rattle.named_mains.specs.f_tree.Facts.{Output, Listed, Controls}
use Rattle.named_mains.specs.f_tree.CNames.{variable_name, made_name, FunctionResult, NumberTemporary, ControlList, ConstantOf, DimensionOf, LowerBoundOf}
use Rattle.named_mains.specs.l_core.Pures.{Pure, Constant, Temporary, Load, Name, ElementOf, Prefixed, Operated, Applied, Chosen, Pures, NoPure, AndPure}
use Rattle.named_mains.specs.l_core.Steps as step
use Rattle.named_mains.specs.l_core.Steps.{Step}
use Rattle.c_spelling.specs.c_tree.Opened.{trees_opened}
use Rattle.c_spelling.specs.c_tree.declared.expression.CExpr.{CExpr}
use Rattle.c_spelling.specs.c_tree.declared.expression.CExpr.TheVariants as expr
use Rattle.c_spelling.specs.c_tree.declared.expression.UnaryOp.{UnaryOp}
use Rattle.c_spelling.specs.c_tree.declared.expression.UnaryOp.TheVariants as prefix
use Rattle.c_spelling.specs.c_tree.declared.expression.BinaryOp.{BinaryOp}
use Rattle.c_spelling.specs.c_tree.declared.expression.BinaryOp.TheVariants as op
use Rattle.c_spelling.specs.c_tree.declared.expression.Extreme.{Extreme}
use Rattle.c_spelling.specs.c_tree.declared.expression.Extreme.TheVariants as extreme
use Rattle.named_mains.specs.c_structure.Expressions.{number_expr, with_two, with_three, one_more}
use Rattle.named_mains.specs.c_image.Operations.{prefix_for, operator_for}
use Rattle.named_mains.specs.c_emit.LibraryFunctions.{LibraryFunction, library_function}
use Rattle.named_mains.specs.c_emit.Calls.{is_plain, kind_number}
use Rattle.c_spelling.specs.Spelled.{of_bytes, expression_of_bytes, value_of_bytes}
use Rattle.named_mains.specs.named_items.declared.item.Callee.{Callee}
use Rattle.named_mains.specs.named_items.declared.item.Case.{Case}
use Rattle.named_mains.specs.named_items.declared.item.Item.{Item}
use Rattle.named_mains.specs.named_items.declared.item.Item.TheVariants as item
use Rattle.named_mains.specs.named_items.Items.{assign_by, call_by, set_call_by}
use Rattle.named_mains.specs.named_items.SamePlaces.{number_in}
use Rattle.named_mains.specs.item_emission.declared.known.Dimension.{Dimension}
use Rattle.named_mains.specs.item_emission.declared.known.LowerBound.{LowerBound}
use Rattle.named_mains.specs.item_emission.declared.known.LowerBound.TheVariants as low
use Rattle.named_mains.specs.item_emission.declared.known.Size.{Size}
use Rattle.named_mains.specs.item_emission.declared.known.Size.TheVariants as many
use Rattle.named_mains.specs.item_emission.declared.known.Standing.{Standing}
use Rattle.named_mains.specs.item_emission.declared.known.Standing.TheVariants.{Own, Parameter, Result}
use Rattle.named_mains.specs.item_emission.declared.known.Giving.{Giving}
use Rattle.named_mains.specs.item_emission.declared.known.Giving.TheVariants as giving
use Rattle.named_mains.specs.item_emission.NamedEmission as emission
use Rattle.named_mains.specs.item_emission.NamedEmission.{Knowledge, Kinds}
use Rattle.named_mains.specs.NamedMains.{item_ahead, items_from}

-- ## Tests

-- a test passes what is there
abbrev pub passes : {A : Type 0} → (A → Bool) → Option A → Bool
passes test None = true
passes test (Some a) = test a

pub both : (a b : Bool) → a ≡ true → b ≡ true → a && b ≡ true
both true b one other = other
both false b one other = absurd (cc)

pub left : (a b : Bool) → a && b ≡ true → a ≡ true
left true b h = refl
left false b h = absurd (cc)

pub right : (a b : Bool) → a && b ≡ true → b ≡ true
right true b h = h
right false b h = absurd (cc)

pub chosen : {A : Type 0} (test : A → Bool) (b : Bool) (x y : Option A) → passes test x ≡ true → passes test y ≡ true → passes test (if b then x else y) ≡ true
chosen test true x y one other = one
chosen test false x y one other = other

mapped : {A B : Type 0} (test : A → Bool) (other : B → Bool) (f : A → B) (x : Option A) → ((a : A) → test a ≡ true → other (f a) ≡ true) → passes test x ≡ true → passes other (option_map f x) ≡ true
mapped test other f None keeps h = refl
mapped test other f (Some a) keeps h = keeps a h

made : {A B : Type 0} (other : B → Bool) (f : A → B) (x : Option A) → ((a : A) → other (f a) ≡ true) → passes other (option_map f x) ≡ true
made other f None each = refl
made other f (Some a) each = each a

pub chained : {A B : Type 0} (test : A → Bool) (other : B → Bool) (f : A → Option B) (x : Option A) → ((a : A) → test a ≡ true → passes other (f a) ≡ true) → passes test x ≡ true → passes other (option_and_then f x) ≡ true
chained test other f None keeps h = refl
chained test other f (Some a) keeps h = keeps a h

-- ## Expressions

abbrev of_expressions : List CExpr → Bool
of_expressions es = list_all expression_of_bytes es

two : (form : CExpr → CExpr → CExpr) (x y : Option CExpr) → ((a b : CExpr) → expression_of_bytes a ≡ true → expression_of_bytes b ≡ true → expression_of_bytes (form a b) ≡ true)
    → passes expression_of_bytes x ≡ true → passes expression_of_bytes y ≡ true → passes expression_of_bytes (with_two form x y) ≡ true
unfolding with_two
two form (Some a) (Some b) keeps one other = keeps a b one other
two form (Some a) None keeps one other = refl
two form None y keeps one other = refl

three : (form : CExpr → CExpr → CExpr → CExpr) (x y z : Option CExpr)
    → ((a b c : CExpr) → expression_of_bytes a ≡ true → expression_of_bytes b ≡ true → expression_of_bytes c ≡ true → expression_of_bytes (form a b c) ≡ true)
    → passes expression_of_bytes x ≡ true → passes expression_of_bytes y ≡ true → passes expression_of_bytes z ≡ true → passes expression_of_bytes (with_three form x y z) ≡ true
unfolding with_three
three form (Some a) (Some b) (Some c) keeps one other third = keeps a b c one other third
three form (Some a) (Some b) None keeps one other third = refl
three form (Some a) None z keeps one other third = refl
three form None y z keeps one other third = refl

more : (x : Option CExpr) (xs : Option (List CExpr)) → passes expression_of_bytes x ≡ true → passes of_expressions xs ≡ true → passes of_expressions (one_more x xs) ≡ true
unfolding one_more
more (Some e) (Some es) one others = both (expression_of_bytes e) (of_expressions es) one others
more (Some e) None one others = refl
more None xs one others = refl

unary : (sign : UnaryOp) (e : CExpr) → expression_of_bytes e ≡ true → expression_of_bytes (expr.Unary sign e) ≡ true
unfolding trees_opened
unary sign e h = h

magnitude : (e : CExpr) → expression_of_bytes e ≡ true → expression_of_bytes (expr.Abs e) ≡ true
unfolding trees_opened
magnitude e h = h

binary : (sign : BinaryOp) (a b : CExpr) → expression_of_bytes a ≡ true → expression_of_bytes b ≡ true → expression_of_bytes (expr.Binary sign a b) ≡ true
unfolding trees_opened
binary sign a b one other = both (expression_of_bytes a) (expression_of_bytes b) one other

most : (which : Extreme) (a b : CExpr) → expression_of_bytes a ≡ true → expression_of_bytes b ≡ true → expression_of_bytes (expr.MaxMin which a b) ≡ true
unfolding trees_opened
most which a b one other = both (expression_of_bytes a) (expression_of_bytes b) one other

element : (a b : CExpr) → expression_of_bytes a ≡ true → expression_of_bytes b ≡ true → expression_of_bytes (expr.Index a b) ≡ true
unfolding trees_opened
element a b one other = both (expression_of_bytes a) (expression_of_bytes b) one other

choice : (a b c : CExpr) → expression_of_bytes a ≡ true → expression_of_bytes b ≡ true → expression_of_bytes c ≡ true → expression_of_bytes (expr.Choose a b c) ≡ true
unfolding trees_opened
choice a b c one other third = both (expression_of_bytes a) (expression_of_bytes b && expression_of_bytes c) one (both (expression_of_bytes b) (expression_of_bytes c) other third)

name : (x : List ℕ) → expression_of_bytes (expr.Name x) ≡ true
unfolding trees_opened
name x = refl

written : (z : ℤ) → expression_of_bytes (expr.Number z) ≡ true
unfolding trees_opened
written z = refl

either : (b : Bool) (x y : CExpr) → expression_of_bytes x ≡ true → expression_of_bytes y ≡ true → expression_of_bytes (if b then x else y) ≡ true
either true x y one other = one
either false x y one other = other

-- ## Numbers

number : (z : ℤ) → passes expression_of_bytes (number_expr z) ≡ true
unfolding number_expr
number (pos n) = chosen expression_of_bytes (nat_le n 2147483647) (Some (expr.Number (pos n))) None (written (pos n)) refl
number (negsuc n) = refl

constant : (z : ℤ) → passes expression_of_bytes (emission.constant_expr z) ≡ true
unfolding emission.constant_expr emission.negative_expr
constant (pos n) = number (pos n)
constant (negsuc less) =
    let least : CExpr = expr.Unary prefix.Minus (expr.Number (pos 2147483647)) in
    chosen expression_of_bytes (nat_eq less 2147483647) (Some (expr.Binary op.Subtract least (expr.Number (pos 1)))) (option_map (expr.Unary prefix.Minus) (number_expr (pos (suc less))))
    (binary op.Subtract least (expr.Number (pos 1)) (unary prefix.Minus (expr.Number (pos 2147483647)) (written (pos 2147483647))) (written (pos 1)))
    (mapped expression_of_bytes expression_of_bytes (expr.Unary prefix.Minus) (number_expr (pos (suc less))) (unary prefix.Minus) (number (pos (suc less))))

datum : (d : Datum) → passes expression_of_bytes (emission.datum_expr d) ≡ true
unfolding emission.datum_expr
datum (IsInt z) = constant z
datum (IsLog true) = written (pos 1)
datum (IsLog false) = written (pos 0)
datum d = refl

-- ## Elements of arrays

added : (nothing last : Bool) (a b : CExpr) → expression_of_bytes a ≡ true → expression_of_bytes b ≡ true → expression_of_bytes (emission.added_expr nothing last a b) ≡ true
unfolding emission.added_expr
added true last a b one other = other
added false true a b one other = one
added false false a b one other = binary op.Add a b one other

summed : (m n : Option ℤ) (a b : CExpr) → expression_of_bytes a ≡ true → expression_of_bytes b ≡ true → passes expression_of_bytes (emission.sum_by m n a b) ≡ true
unfolding emission.sum_by
summed (Some m) (Some n) a b one other = number (m +ℤ n)
summed (Some m) None a b one other = added (int_eq m (pos 0)) false a b one other
summed None n a b one other = added false (emission.is_the_number (pos 0) n) a b one other

sums : (x y : Option CExpr) → passes expression_of_bytes x ≡ true → passes expression_of_bytes y ≡ true → passes expression_of_bytes (emission.sum_of x y) ≡ true
unfolding emission.sum_of emission.sum_expr
sums (Some a) (Some b) one other = summed (number_in a) (number_in b) a b one other
sums (Some a) None one other = refl
sums None y one other = refl

difference : (a b : CExpr) → expression_of_bytes a ≡ true → expression_of_bytes b ≡ true → expression_of_bytes (emission.difference_expr a b) ≡ true
unfolding emission.difference_expr
difference a b one other = either (emission.is_the_number (pos 0) (number_in b)) a (expr.Binary op.Subtract a b) one (binary op.Subtract a b one other)

product : (a b : CExpr) → expression_of_bytes a ≡ true → expression_of_bytes b ≡ true → expression_of_bytes (emission.product_expr a b) ≡ true
unfolding emission.product_expr
product a b one other = either (emission.is_the_number (pos 1) (number_in b)) a (expr.Binary op.Multiply a b) one (binary op.Multiply a b one other)

lowest : (x : Bytes) (k : ℕ) (lower : LowerBound) → passes expression_of_bytes (emission.lower_expr x k lower) ≡ true
unfolding emission.lower_expr
lowest x k (low.Written z) = constant z
lowest x k low.Kept = name (made_name (LowerBoundOf (variable_name x) (suc k)))

extent : (x : Bytes) (k : ℕ) (size : Size) → passes expression_of_bytes (emission.size_expr x k size) ≡ true
unfolding emission.size_expr
extent x k (many.Written n) = number (pos n)
extent x k many.Kept = name (made_name (DimensionOf (variable_name x) (suc k)))

distance : (x : Bytes) (k : ℕ) (d : Dimension) (e : CExpr) → expression_of_bytes e ≡ true → passes expression_of_bytes (emission.distance_expr x k d e) ≡ true
unfolding emission.distance_expr
distance x k d e h = mapped expression_of_bytes expression_of_bytes (emission.difference_expr e) (emission.lower_expr x k d.lower) (λ lower is. difference e lower h is) (lowest x k d.lower)

stepped : (x : Bytes) (k : ℕ) (d : Dimension) (e : CExpr) (index : Option CExpr) → expression_of_bytes e ≡ true → passes expression_of_bytes index ≡ true → passes expression_of_bytes (emission.stepped_expr x k d e index) ≡ true
unfolding emission.stepped_expr
stepped x k d e index h ahead =
    sums (with_two emission.product_expr index (emission.size_expr x k d.size)) (emission.distance_expr x k d e)
    (two emission.product_expr index (emission.size_expr x k d.size) product ahead (extent x k d.size)) (distance x k d e h)

indexed : (x : Bytes) (d : ℕ → Dimension) (k : ℕ) (es : List CExpr) → of_expressions es ≡ true → passes expression_of_bytes (emission.index_expr x d k es) ≡ true
unfolding emission.index_expr
indexed x d k [] h = number (pos 0)
indexed x d k (e ∷ []) h = distance x k (d k) e (left (expression_of_bytes e) true h)
indexed x d k (e ∷ next ∷ later) h =
    stepped x k (d k) e (emission.index_expr x d (suc k) (next ∷ later)) (left (expression_of_bytes e) (of_expressions (next ∷ later)) h)
    (indexed x d (suc k) (next ∷ later) (right (expression_of_bytes e) (of_expressions (next ∷ later)) h))

of_array : (x : Bytes) (d : ℕ → Dimension) (subscripts : Option (List CExpr)) → passes of_expressions subscripts ≡ true → passes expression_of_bytes (emission.element_expr x d subscripts) ≡ true
unfolding emission.element_expr emission.variable_expr
of_array x d None h = refl
of_array x d (Some es) h =
    mapped expression_of_bytes expression_of_bytes (expr.Index (emission.variable_expr x)) (emission.index_expr x d 0 es) (λ index is. element (emission.variable_expr x) index (name (variable_name x)) is) (indexed x d 0 es h)

scalar : (standing : Standing) (x : Bytes) → expression_of_bytes (emission.scalar_expr standing x) ≡ true
unfolding emission.scalar_expr emission.variable_expr emission.result_object
scalar Own x = name (variable_name x)
scalar Parameter x = unary prefix.Deref (expr.Name (variable_name x)) (name (variable_name x))
scalar Result x = name (made_name FunctionResult)

-- ## Functions

extremes : (which : Extreme) (best : CExpr) (es : List CExpr) → expression_of_bytes best ≡ true → of_expressions es ≡ true → expression_of_bytes (emission.extreme_expr which best es) ≡ true
unfolding emission.extreme_expr
extremes which best [] one others = one
extremes which best (e ∷ later) one others =
    extremes which (expr.MaxMin which best e) later (most which best e one (left (expression_of_bytes e) (of_expressions later) others)) (right (expression_of_bytes e) (of_expressions later) others)

first_of_some : (which : Extreme) (es : List CExpr) → of_expressions es ≡ true → passes expression_of_bytes (emission.first_extreme which es) ≡ true
unfolding emission.first_extreme
first_of_some which [] h = refl
first_of_some which (best ∷ later) h = extremes which best later (left (expression_of_bytes best) (of_expressions later) h) (right (expression_of_bytes best) (of_expressions later) h)

alone : (es : List CExpr) → of_expressions es ≡ true → passes expression_of_bytes (emission.alone_expr es) ≡ true
unfolding emission.alone_expr
alone [] h = refl
alone (a ∷ []) h = left (expression_of_bytes a) true h
alone (a ∷ b ∷ later) h = refl

remainder : (es : List CExpr) → of_expressions es ≡ true → passes expression_of_bytes (emission.remainder_expr es) ≡ true
unfolding emission.remainder_expr
remainder [] h = refl
remainder (a ∷ later) h =
    mapped expression_of_bytes expression_of_bytes (expr.Binary op.Remainder a) (emission.alone_expr later) (λ b is. binary op.Remainder a b (left (expression_of_bytes a) (of_expressions later) h) is)
    (alone later (right (expression_of_bytes a) (of_expressions later) h))

applied : (f : fortran.Function) (es : List CExpr) → of_expressions es ≡ true → passes expression_of_bytes (emission.function_expr f es) ≡ true
unfolding emission.function_expr
applied fortran.Truncation es h = alone es h
applied fortran.Magnitude es h = mapped expression_of_bytes expression_of_bytes expr.Abs (emission.alone_expr es) magnitude (alone es h)
applied fortran.Remainder es h = remainder es h
applied fortran.Largest es h = first_of_some extreme.Max es h
applied fortran.Smallest es h = first_of_some extreme.Min es h
applied f es h = refl

applied_to : (f : fortran.Function) (xs : Option (List CExpr)) → passes of_expressions xs ≡ true → passes expression_of_bytes (emission.applied_expr f xs) ≡ true
unfolding emission.applied_expr
applied_to f None h = refl
applied_to f (Some es) h = applied f es h

-- ## Values

where_so : (b : Bool) (x : Option CExpr) → passes expression_of_bytes x ≡ true → passes expression_of_bytes (emission.expr_if b x) ≡ true
unfolding emission.expr_if
where_so true x h = h
where_so false x h = refl

temporary : (known : Knowledge) (k : ℕ) → passes expression_of_bytes (emission.temporary_expr known k) ≡ true
unfolding emission.temporary_expr emission.temporary_object
temporary known k = where_so (nat_lt k known.temporaries) (Some (emission.temporary_object k)) (name (made_name (NumberTemporary (suc k))))

mutual
  unfolding emission.value_expr emission.place_expr emission.value_exprs emission.variable_expr

  value : (known : Knowledge) (p : Pure) → passes expression_of_bytes (emission.value_expr known p) ≡ true
  value known (Constant d) = datum d
  value known (Temporary k) = temporary known k
  value known (Load p) = place known p
  value known (Prefixed sign p) = mapped expression_of_bytes expression_of_bytes (expr.Unary (prefix_for sign)) (emission.value_expr known p) (unary (prefix_for sign)) (value known p)
  value known (Operated sign p q) = two (expr.Binary (operator_for sign)) (emission.value_expr known p) (emission.value_expr known q) (binary (operator_for sign)) (value known p) (value known q)
  value known (Applied f ps) = applied_to f (emission.value_exprs known ps) (values known ps)
  value known (Chosen p q r) =
      three expr.Choose (emission.value_expr known p) (emission.value_expr known q) (emission.value_expr known r) choice (value known p) (value known q) (value known r)
  value known p = refl

  place : (known : Knowledge) (p : Pure) → passes expression_of_bytes (emission.place_expr known p) ≡ true
  place known (Name x) = where_so (known.is_scalar x) (Some (emission.scalar_expr (known.standing x) x)) (scalar (known.standing x) x)
  place known (ElementOf x ps) =
      where_so (known.is_array x) (emission.element_expr x (known.dimension x) (emission.value_exprs known ps)) (of_array x (known.dimension x) (emission.value_exprs known ps) (values known ps))
  place known p = refl

  values : (known : Knowledge) (ps : Pures) → passes of_expressions (emission.value_exprs known ps) ≡ true
  values known NoPure = refl
  values known (AndPure p ps) = more (emission.value_expr known p) (emission.value_exprs known ps) (value known p) (values known ps)

-- ## Items

-- an item whose strings are of bytes
abbrev pub item_of_bytes : Item → Bool
item_of_bytes (item.Assign a b) = expression_of_bytes a && expression_of_bytes b
item_of_bytes (item.Branch test on off) = expression_of_bytes test
item_of_bytes (item.Select value cases otherwise) = expression_of_bytes value
item_of_bytes (item.Jump position) = true
item_of_bytes (item.Call callee arguments) = list_all expression_of_bytes arguments
item_of_bytes (item.SetCall target callee arguments) = expression_of_bytes target && list_all expression_of_bytes arguments
item_of_bytes (item.Return value) = value_of_bytes value
item_of_bytes item.Nothing = true

abbrev pub items_of_bytes : List Item → Bool
items_of_bytes items = list_all item_of_bytes items

-- the text of a STOP statement is of bytes
abbrev pub step_of_bytes : Step → Bool
step_of_bytes (step.Halt text) = of_bytes text
step_of_bytes st = true

assigned : (x y : Option CExpr) → passes expression_of_bytes x ≡ true → passes expression_of_bytes y ≡ true → passes item_of_bytes (assign_by x y) ≡ true
unfolding assign_by
assigned (Some a) (Some b) one other = both (expression_of_bytes a) (expression_of_bytes b) one other
assigned (Some a) None one other = refl
assigned None y one other = refl

branched : (x : Option CExpr) (on off : ℕ) → passes expression_of_bytes x ≡ true → passes item_of_bytes (emission.branch_step x on off) ≡ true
unfolding emission.branch_step
branched None on off h = refl
branched (Some test) on off h = h

selected : (x : Option CExpr) (cases : List Case) (otherwise : ℕ) → passes expression_of_bytes x ≡ true → passes item_of_bytes (emission.select_step x cases otherwise) ≡ true
unfolding emission.select_step
selected None cases otherwise h = refl
selected (Some e) cases otherwise h = h

address : (e : CExpr) → expression_of_bytes e ≡ true → expression_of_bytes (emission.address_expr e) ≡ true
address e h = unary prefix.Address e h

-- ## Calls of the library

constant_held : (known : Knowledge) (z : ℤ) → passes expression_of_bytes (emission.constant_held known z) ≡ true
unfolding emission.constant_held emission.constant_object
constant_held known z = where_so (known.has z) (Some (emission.constant_object z)) (name (made_name (ConstantOf z)))

datum_held : (known : Knowledge) (d : Datum) → passes expression_of_bytes (emission.datum_held known d) ≡ true
unfolding emission.datum_held
datum_held known (IsInt z) = constant_held known z
datum_held known (IsLog true) = constant_held known (pos 1)
datum_held known (IsLog false) = constant_held known (pos 0)
datum_held known d = refl

held : (known : Knowledge) (p : Pure) → passes expression_of_bytes (emission.held_expr known p) ≡ true
unfolding emission.held_expr
held known (Constant d) = datum_held known d
held known (Temporary k) = temporary known k
held known (Load p) = place known p
held known p = refl

held_all : (known : Knowledge) (ps : Pures) → passes of_expressions (emission.held_exprs known ps) ≡ true
unfolding emission.held_exprs
held_all known NoPure = refl
held_all known (AndPure p ps) = more (emission.held_expr known p) (emission.held_exprs known ps) (held known p) (held_all known ps)

addresses : (es : List CExpr) → of_expressions es ≡ true → of_expressions (map emission.address_expr es) ≡ true
addresses [] h = refl
addresses (e ∷ es) h =
    both (expression_of_bytes (emission.address_expr e)) (of_expressions (map emission.address_expr es)) (address e (left (expression_of_bytes e) (of_expressions es) h)) (addresses es (right (expression_of_bytes e) (of_expressions es) h))

computed : (x : Option CExpr) (function : Option LibraryFunction) (xs : Option (List CExpr)) → passes expression_of_bytes x ≡ true → passes of_expressions xs ≡ true → passes item_of_bytes (emission.computed_step x function xs) ≡ true
unfolding emission.computed_step
computed (Some e) (Some function) (Some es) one others = both (expression_of_bytes e) (of_expressions (map emission.address_expr es)) one (addresses es others)
computed (Some e) (Some function) None one others = refl
computed (Some e) None xs one others = refl
computed None function xs one others = refl

start_called : (k : ℕ) → item_of_bytes (emission.start_call k) ≡ true
unfolding emission.start_call emission.list_object
start_called k = both (expression_of_bytes (emission.address_expr (emission.list_object k))) true (address (emission.list_object k) (name (made_name (ControlList (suc k))))) refl

started_if : (b : Bool) (at : Option ℕ) → passes item_of_bytes (emission.start_if b at) ≡ true
unfolding emission.start_if
started_if true at = made item_of_bytes emission.start_call at start_called
started_if false at = refl

started : (known : Knowledge) (n : ℕ) (controls : Controls) (ps : Pures) → passes item_of_bytes (emission.start_step known n controls ps) ≡ true
unfolding emission.start_step
started known n controls (AndPure (Constant (IsInt unit)) NoPure) = started_if (is_plain controls && in_range unit) (known.list n)
started known n controls ps = refl

output_called : (number : ℤ) (e : CExpr) → expression_of_bytes e ≡ true → item_of_bytes (emission.output_call number e) ≡ true
unfolding emission.output_call emission.constant_object trees_opened
output_called number e h = both (expression_of_bytes e) true h refl

output_if : (b : Bool) (call : Item) → item_of_bytes call ≡ true → passes item_of_bytes (emission.output_if b call) ≡ true
unfolding emission.output_if
output_if true call h = h
output_if false call h = refl

output_by : (known : Knowledge) (n : Option ℤ) (x : Option CExpr) → passes expression_of_bytes x ≡ true → passes item_of_bytes (emission.output_by known n x) ≡ true
unfolding emission.output_by
output_by known (Some number) (Some e) h = output_if (known.has number && known.has (pos 1)) (emission.output_call number e) (output_called number e h)
output_by known (Some number) None h = refl
output_by known None x h = refl

output : (known : Knowledge) (kind : Kinds) (ps : Pures) → passes item_of_bytes (emission.output_step known kind ps) ≡ true
unfolding emission.output_step
output known kind (AndPure p NoPure) = output_by known (option_and_then kind_number (emission.type_in known kind p)) (emission.held_expr known p) (held known p)
output known kind ps = refl

finished : (ps : Pures) → passes item_of_bytes (emission.finish_step ps) ≡ true
unfolding emission.finish_step
finished NoPure = refl
finished ps = refl

stop_called : (text : Bytes) (size : CExpr) → of_bytes text ≡ true → expression_of_bytes size ≡ true → item_of_bytes (emission.stop_call text size) ≡ true
unfolding emission.stop_call trees_opened
stop_called text size h one = both (of_bytes text) (expression_of_bytes size && true) h (both (expression_of_bytes size) true one refl)

stopped : (text : Bytes) → of_bytes text ≡ true → passes item_of_bytes (emission.stop_step text) ≡ true
unfolding emission.stop_step
stopped text h = mapped expression_of_bytes item_of_bytes (emission.stop_call text) (number_expr (pos (length text))) (λ size one. stop_called text size h one) (number (pos (length text)))

-- ## Calls of procedures

passed : (standing : Standing) (x : Bytes) → expression_of_bytes (emission.scalar_passed standing x) ≡ true
unfolding emission.scalar_passed emission.variable_expr
passed Own x = address (emission.scalar_expr Own x) (scalar Own x)
passed Parameter x = name (variable_name x)
passed Result x = address (emission.scalar_expr Result x) (scalar Result x)

procedure : (callee : Callee) → expression_of_bytes (emission.procedure_expr callee) ≡ true
unfolding emission.procedure_expr trees_opened
procedure callee = refl

procedure_passed : (b : Bool) (x : Option Callee) → passes expression_of_bytes (emission.procedure_passed b x) ≡ true
unfolding emission.procedure_passed
procedure_passed true x = made expression_of_bytes emission.procedure_expr x procedure
procedure_passed false x = refl

name_passed : (known : Knowledge) (x : Bytes) → passes expression_of_bytes (emission.name_passed known x) ≡ true
unfolding emission.name_passed emission.variable_expr
name_passed known x =
    chosen expression_of_bytes (known.is_scalar x) (Some (emission.scalar_passed (known.standing x) x)) (if known.is_array x then Some (emission.variable_expr x) else emission.procedure_passed (known.is_procedure x) (known.routine x))
    (passed (known.standing x) x)
    (chosen expression_of_bytes (known.is_array x) (Some (emission.variable_expr x)) (emission.procedure_passed (known.is_procedure x) (known.routine x)) (name (variable_name x)) (procedure_passed (known.is_procedure x) (known.routine x)))

argument : (known : Knowledge) (p : Pure) → passes expression_of_bytes (emission.argument_expr known p) ≡ true
unfolding emission.argument_expr
argument known (Constant d) = mapped expression_of_bytes expression_of_bytes emission.address_expr (emission.datum_held known d) address (datum_held known d)
argument known (Temporary k) = mapped expression_of_bytes expression_of_bytes emission.address_expr (emission.temporary_expr known k) address (temporary known k)
argument known (Name x) = name_passed known x
argument known (ElementOf x ps) = mapped expression_of_bytes expression_of_bytes emission.address_expr (emission.place_expr known (ElementOf x ps)) address (place known (ElementOf x ps))
argument known p = refl

argument_more : (known : Knowledge) (p : Pure) (xs : Option (List CExpr)) → passes of_expressions xs ≡ true → passes of_expressions (one_more (emission.argument_expr known p) xs) ≡ true
argument_more known p xs others = more (emission.argument_expr known p) xs (argument known p) others

arguments : (known : Knowledge) (ps : Pures) → passes of_expressions (emission.argument_exprs known ps) ≡ true
unfolding emission.argument_exprs
arguments known NoPure = refl
arguments known (AndPure (Constant (IsLabel label)) ps) = arguments known ps
arguments known (AndPure p ps) = argument_more known p (emission.argument_exprs known ps) (arguments known ps)

called : (callee : Option Callee) (xs : Option (List CExpr)) → passes of_expressions xs ≡ true → passes item_of_bytes (emission.call_step callee xs) ≡ true
unfolding emission.call_step call_by
called None xs h = refl
called (Some callee) xs h = mapped of_expressions item_of_bytes (item.Call callee) xs (λ es is. is) h

stored_call : (callee : Callee) (x : Option CExpr) (xs : Option (List CExpr)) → passes expression_of_bytes x ≡ true → passes of_expressions xs ≡ true → passes item_of_bytes (set_call_by x callee xs) ≡ true
unfolding set_call_by
stored_call callee (Some e) (Some es) one others = both (expression_of_bytes e) (of_expressions es) one others
stored_call callee (Some e) None one others = refl
stored_call callee None xs one others = refl

called_for : (wanted : Bool) (x : Option CExpr) (callee : Option Callee) (xs : Option (List CExpr)) → passes expression_of_bytes x ≡ true → passes of_expressions xs ≡ true → passes item_of_bytes (emission.call_for_step wanted x callee xs) ≡ true
unfolding emission.call_for_step
called_for true x (Some callee) xs one others = stored_call callee x xs one others
called_for true x None xs one others = refl
called_for false x callee xs one others = refl

-- ## Steps

acting : (known : Knowledge) (kind : Kinds) (n : ℕ) (what : step.Acting) (ps : Pures) (m : ℕ) → passes item_of_bytes (emission.acting_step known kind n what ps m) ≡ true
unfolding emission.acting_step
acting known kind n (step.Starts Output Listed controls) ps m = started known n controls ps
acting known kind n step.Takes ps m = output known kind ps
acting known kind n step.Finishes ps zero = finished ps
acting known kind n what ps m = refl

returned : (x : Option CExpr) → passes expression_of_bytes x ≡ true → passes item_of_bytes (emission.return_step x) ≡ true
unfolding emission.return_step
returned x h = mapped expression_of_bytes item_of_bytes (λ e. item.Return (Some e)) x (λ e is. is) h

given : (known : Knowledge) (gives : Giving) → passes expression_of_bytes (emission.given_expr known gives) ≡ true
unfolding emission.given_expr
given known giving.Zero = written (pos 0)
given known giving.Alternate = written (pos 0)
given known (giving.Value x) = place known (Name x)
given known giving.Nothing = refl

alternate : (gives : Giving) (x : Option CExpr) → passes expression_of_bytes x ≡ true → passes item_of_bytes (emission.alternate_step gives x) ≡ true
unfolding emission.alternate_step
alternate giving.Alternate x h = returned x h
alternate other x h = refl

switched : (known : Knowledge) (n : ℕ) (labels : List ℕ) (p : Pure) → passes item_of_bytes (emission.switch_step n labels (emission.place_expr known p)) ≡ true
unfolding emission.switch_step
switched known n labels p = selected (emission.place_expr known p) (emission.label_cases (suc n) labels) (suc n + length labels) (place known p)

one_step : (known : Knowledge) (kind : Kinds) (n : ℕ) (st : Step) → step_of_bytes st ≡ true → passes item_of_bytes (emission.item_step known kind n st) ≡ true
unfolding emission.item_step
one_step known kind n (step.Put target p) h = assigned (emission.place_expr known target) (emission.value_expr known p) (place known target) (value known p)
one_step known kind n (step.PutLabel target label) h = assigned (emission.place_expr known target) (emission.constant_expr (pos label)) (place known target) (constant (pos label))
one_step known kind n (step.Keep k p) h = assigned (emission.temporary_expr known k) (emission.value_expr known p) (temporary known k) (value known p)
one_step known kind n (step.Compute k f ps) h = computed (emission.temporary_expr known k) (library_function f) (emission.held_exprs known ps) (temporary known k) (held_all known ps)
one_step known kind n (step.Unless p m) h = branched (emission.value_expr known p) (suc n) (suc n + m) (value known p)
one_step known kind n (step.AgainIf p m) h = branched (emission.value_expr known p) (n - m) (suc n) (value known p)
one_step known kind n (step.Skip m) h = refl
one_step known kind n (step.Again m) h = refl
one_step known kind n (step.Jump l) h = made item_of_bytes item.Jump (known.label l) (λ position. refl)
one_step known kind n (step.Select p count) h = selected (emission.value_expr known p) (emission.cases_from 1 (suc n) count) (suc n + count) (value known p)
one_step known kind n (step.JumpBy p labels) h = switched known n labels p
one_step known kind n (step.Branch k count) h =
    selected (emission.value_expr known (Temporary k)) (emission.cases_from 1 (suc n) count) (suc n + count) (value known (Temporary k))
one_step known kind n (step.Way l) h = made item_of_bytes item.Jump (known.label l) (λ position. refl)
one_step known kind n step.Pass h = refl
one_step known kind n (step.CallFor k callee ps) h =
    called_for (emission.wants_number callee.want) (emission.temporary_expr known k) (known.routine callee.name) (emission.argument_exprs known ps) (temporary known k) (arguments known ps)
one_step known kind n (step.CallSub k x ps) h = called (known.routine x) (emission.argument_exprs known ps) (arguments known ps)
one_step known kind n step.Back h = returned (emission.given_expr known known.gives) (given known known.gives)
one_step known kind n (step.BackBy p) h = alternate known.gives (emission.value_expr known p) (value known p)
one_step known kind n (step.Acts what ps m) h = acting known kind n what ps m
one_step known kind n (step.Halt text) h = stopped text h
one_step known kind n st h = refl

ahead : (x : Option Item) (xs : Option (List Item)) → passes item_of_bytes x ≡ true → passes items_of_bytes xs ≡ true → passes items_of_bytes (item_ahead x xs) ≡ true
unfolding item_ahead
ahead (Some i) (Some later) one others = both (item_of_bytes i) (items_of_bytes later) one others
ahead (Some i) None one others = refl
ahead None xs one others = refl

-- items of steps by names
pub items_are_of_bytes : (known : Knowledge) (kinds : ℕ → Kinds) (n : ℕ) (steps : List Step) → list_all step_of_bytes steps ≡ true → passes items_of_bytes (items_from known kinds n steps) ≡ true
unfolding items_from
items_are_of_bytes known kinds n [] h = refl
items_are_of_bytes known kinds n (st ∷ later) h =
    ahead (emission.item_step known (kinds n) n st) (items_from known kinds (suc n) later) (one_step known (kinds n) n st (left (step_of_bytes st) (list_all step_of_bytes later) h))
    (items_are_of_bytes known kinds (suc n) later (right (step_of_bytes st) (list_all step_of_bytes later) h))
