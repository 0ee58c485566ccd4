-- The C expressions and items for lowered values and steps over numbers, by names. None where a value is a text, takes a call of the library, or has a
-- number that C has no constant for, and for a step that is not emitted. An actual argument goes by the address of its place, or of the object that holds
-- its value; a procedure by its function. ANSI X3.9-1978, sections 5.4, 6, 10, 11, 12, 13, 15.5, 15.6, 15.8, 15.9 and 15.10; C89, 3.3 and 3.6.
use Rattle.std.specs.Prelude.{ℕ, zero, suc, ◌+◌, ◌-◌, nat_eq, nat_lt, ℤ, pos, negsuc, ◌+ℤ◌, Bool, true, false, ◌&&◌, List, [], ◌∷◌, map, length, Option, Some, None, option_map, option_and_then, slice_get, unwrap_or, codes, if◌then◌else◌}
use Rattle.std.specs.Ordering.{int_eq}
use Rattle.main_file.specs.f_tree.declared.names.Basic.{Basic}
use Rattle.main_file.specs.f_tree.Values.{Bytes, Datum, IsInt, IsLog, IsLabel, in_range}
use Rattle.main_file.specs.f_tree.Terms as fortran
use Rattle.main_file.specs.f_tree.Terms.{Wanted, AsSubroutine, AsFunction}
use Rattle.main_file.specs.f_tree.Facts.{Output, Listed, Controls}
use Rattle.main_file.specs.f_tree.CNames.{variable_name, made_name, FunctionResult, NumberTemporary, ControlList, ConstantOf, DimensionOf, LowerBoundOf}
use Rattle.main_file.specs.l_core.Pures.{Pure, Constant, Temporary, Load, Name, ElementOf, Prefixed, Operated, Applied, Chosen, Pures, NoPure, AndPure}
use Rattle.main_file.specs.l_core.Steps as step
use Rattle.main_file.specs.l_core.Steps.{Step}
use Rattle.c_tree.specs.declared.types.CastType.TheVariants as to
use Rattle.c_tree.specs.declared.types.FunctionType.TheVariants as pointer
use Rattle.c_tree.specs.declared.expression.CExpr.{CExpr}
use Rattle.c_tree.specs.declared.expression.CExpr.TheVariants as expr
use Rattle.c_tree.specs.declared.expression.UnaryOp.TheVariants as prefix
use Rattle.c_tree.specs.declared.expression.BinaryOp.TheVariants as op
use Rattle.c_tree.specs.declared.expression.Extreme.{Extreme}
use Rattle.c_tree.specs.declared.expression.Extreme.TheVariants as extreme
use Rattle.named_items.specs.c_structure.Expressions.{number_expr, with_two, with_three, one_more}
use Rattle.main_file.specs.c_image.Operations.{prefix_for, operator_for}
use Rattle.main_file.specs.c_emit.Numbers.{is_numeric}
use Rattle.main_file.specs.c_emit.LibraryFunctions.{LibraryFunction, library_function}
use Rattle.main_file.specs.c_emit.Types.{type_of_datum, type_behind, type_between, type_by, if_numeric}
use Rattle.main_file.specs.c_emit.Calls.{is_plain, kind_number}
use Rattle.named_items.specs.declared.item.Callee.{Callee}
use Rattle.named_items.specs.declared.item.Case.{Case}
use Rattle.named_items.specs.declared.item.Item.{Item}
use Rattle.named_items.specs.declared.item.Item.TheVariants as item
use Rattle.named_items.specs.Items.{by_name, assign_by, call_by, set_call_by}
use Rattle.named_items.specs.SamePlaces.{number_in}
use Rattle.item_emission.specs.declared.known.Dimension.{Dimension}
use Rattle.item_emission.specs.declared.known.LowerBound.{LowerBound}
use Rattle.item_emission.specs.declared.known.LowerBound.TheVariants as low
use Rattle.item_emission.specs.declared.known.Size.{Size}
use Rattle.item_emission.specs.declared.known.Size.TheVariants as many
use Rattle.item_emission.specs.declared.known.Standing.{Standing}
use Rattle.item_emission.specs.declared.known.Standing.TheVariants.{Own, Parameter, Result}
use Rattle.item_emission.specs.declared.known.Giving.{Giving}
use Rattle.item_emission.specs.declared.known.Giving.TheVariants as giving

-- what is known of a program unit
pub record Knowledge : Type 0 where
  -- whether a name stands for one number, or for an array of numbers; its type, and each of its dimensions
  pub is_scalar : Bytes → Bool
  pub is_array : Bytes → Bool
  pub basic : Bytes → Basic
  pub dimension : Bytes → ℕ → Dimension
  -- how a variable or an array stands in C
  pub standing : Bytes → Standing
  -- whether a name stands for a procedure that may be passed, and the function that is called by a name
  pub is_procedure : Bytes → Bool
  pub routine : Bytes → Option Callee
  -- how many temporaries hold numbers
  pub temporaries : ℕ
  -- whether a constant has an object of its own
  pub has : ℤ → Bool
  -- the place among the control lists of the one for the output that begins at a step
  pub list : ℕ → Option ℕ
  -- the step of a label
  pub label : ℕ → Option ℕ
  -- what END and RETURN give
  pub gives : Giving

-- ## Numbers

-- the negative number whose opposite is so much more than 1; that of the least number has no constant
unfoldable pub negative_expr : ℕ → Option CExpr
negative_expr less =
    if nat_eq less 2147483647 then Some (expr.Binary op.Subtract (expr.Unary prefix.Minus (expr.Number (pos 2147483647))) (expr.Number (pos 1)))
    else option_map (expr.Unary prefix.Minus) (number_expr (pos (suc less)))

-- a number
unfoldable pub constant_expr : ℤ → Option CExpr
constant_expr (pos n) = number_expr (pos n)
constant_expr (negsuc less) = negative_expr less

-- a constant: `.TRUE.` is 1 and `.FALSE.` is 0
unfoldable pub datum_expr : Datum → Option CExpr
datum_expr (IsInt z) = constant_expr z
datum_expr (IsLog true) = Some (expr.Number (pos 1))
datum_expr (IsLog false) = Some (expr.Number (pos 0))
datum_expr d = None

-- ## Elements of arrays

unfoldable pub is_the_number : ℤ → Option ℤ → Bool
is_the_number z None = false
is_the_number z (Some n) = int_eq n z

-- a sum without what adds nothing
unfoldable pub added_expr : Bool → Bool → CExpr → CExpr → CExpr
added_expr true nothing a b = b
added_expr false true a b = a
added_expr false false a b = expr.Binary op.Add a b

-- of two constants the sum
unfoldable pub sum_by : Option ℤ → Option ℤ → CExpr → CExpr → Option CExpr
sum_by (Some m) (Some n) a b = number_expr (m +ℤ n)
sum_by (Some m) None a b = Some (added_expr (int_eq m (pos 0)) false a b)
sum_by None n a b = Some (added_expr false (is_the_number (pos 0) n) a b)

unfoldable pub sum_expr : CExpr → CExpr → Option CExpr
sum_expr a b = sum_by (number_in a) (number_in b) a b

unfoldable pub difference_expr : CExpr → CExpr → CExpr
difference_expr a b = if is_the_number (pos 0) (number_in b) then a else expr.Binary op.Subtract a b

unfoldable pub product_expr : CExpr → CExpr → CExpr
product_expr a b = if is_the_number (pos 1) (number_in b) then a else expr.Binary op.Multiply a b

unfoldable pub sum_of : Option CExpr → Option CExpr → Option CExpr
sum_of (Some a) (Some b) = sum_expr a b
sum_of _ _ = None

-- a dimension; what is not there counts as 0
unfoldable pub dimension_at : List Dimension → ℕ → Dimension
dimension_at ds k = unwrap_or (slice_get ds k) (record { lower = low.Written (pos 0); size = many.Written 0 })

-- a lower bound and a size: a constant, or the variable that keeps it, by the name of the array and the number of the dimension
unfoldable pub lower_expr : Bytes → ℕ → LowerBound → Option CExpr
lower_expr x k (low.Written z) = constant_expr z
lower_expr x k low.Kept = Some (expr.Name (made_name (LowerBoundOf (variable_name x) (suc k))))

unfoldable pub size_expr : Bytes → ℕ → Size → Option CExpr
size_expr x k (many.Written n) = number_expr (pos n)
size_expr x k many.Kept = Some (expr.Name (made_name (DimensionOf (variable_name x) (suc k))))

-- how far a subscript is from its lower bound
unfoldable pub distance_expr : Bytes → ℕ → Dimension → CExpr → Option CExpr
distance_expr x k d e = option_map (difference_expr e) (lower_expr x k d.lower)

-- one dimension more, before those by which an element has an index
unfoldable pub stepped_expr : Bytes → ℕ → Dimension → CExpr → Option CExpr → Option CExpr
stepped_expr x k d e index = sum_of (with_two product_expr index (size_expr x k d.size)) (distance_expr x k d e)

-- the index of an element by its subscripts, from a dimension on, the first one going fastest
unfoldable pub index_expr : Bytes → (ℕ → Dimension) → ℕ → List CExpr → Option CExpr
index_expr x d k [] = number_expr (pos 0)
index_expr x d k (e ∷ []) = distance_expr x k (d k) e
index_expr x d k (e ∷ next ∷ later) = stepped_expr x k (d k) e (index_expr x d (suc k) (next ∷ later))

-- a variable or a parameter by its name
unfoldable pub variable_expr : Bytes → CExpr
variable_expr x = expr.Name (variable_name x)

-- by the variable for the result of a function
unfoldable pub result_object : CExpr
result_object = expr.Name (made_name FunctionResult)

-- one number, as it stands
unfoldable pub scalar_expr : Standing → Bytes → CExpr
scalar_expr Own x = variable_expr x
scalar_expr Parameter x = expr.Unary prefix.Deref (variable_expr x)
scalar_expr Result x = result_object

unfoldable pub element_expr : Bytes → (ℕ → Dimension) → Option (List CExpr) → Option CExpr
element_expr x d None = None
element_expr x d (Some es) = option_map (expr.Index (variable_expr x)) (index_expr x d 0 es)

-- ## Functions

-- the greatest or the least of some numbers, from the left, where there are any
unfoldable pub extreme_expr : Extreme → CExpr → List CExpr → CExpr
extreme_expr which best [] = best
extreme_expr which best (e ∷ later) = extreme_expr which (expr.MaxMin which best e) later

unfoldable pub first_extreme : Extreme → List CExpr → Option CExpr
first_extreme which [] = None
first_extreme which (best ∷ later) = Some (extreme_expr which best later)

-- an operand that stands alone, and the remainder of two
unfoldable pub alone_expr : List CExpr → Option CExpr
alone_expr (a ∷ []) = Some a
alone_expr es = None

unfoldable pub remainder_expr : List CExpr → Option CExpr
remainder_expr [] = None
remainder_expr (a ∷ later) = option_map (expr.Binary op.Remainder a) (alone_expr later)

-- a function over numbers; none for one that takes a call of the library, or texts
unfoldable pub function_expr : fortran.Function → List CExpr → Option CExpr
function_expr fortran.Truncation es = alone_expr es
function_expr fortran.Magnitude es = option_map expr.Abs (alone_expr es)
function_expr fortran.Remainder es = remainder_expr es
function_expr fortran.Largest es = first_extreme extreme.Max es
function_expr fortran.Smallest es = first_extreme extreme.Min es
function_expr f es = None

unfoldable pub applied_expr : fortran.Function → Option (List CExpr) → Option CExpr
applied_expr f None = None
applied_expr f (Some es) = function_expr f es

-- ## Values

unfoldable pub expr_if : Bool → Option CExpr → Option CExpr
expr_if true e = e
expr_if false e = None

unfoldable pub temporary_object : ℕ → CExpr
temporary_object k = expr.Name (made_name (NumberTemporary (suc k)))

unfoldable pub temporary_expr : Knowledge → ℕ → Option CExpr
temporary_expr known k = expr_if (nat_lt k known.temporaries) (Some (temporary_object k))

-- a value, a place of a number, and values one after the other
unfoldable mutual
  pub value_expr : Knowledge → Pure → Option CExpr
  value_expr known (Constant d) = datum_expr d
  value_expr known (Temporary k) = temporary_expr known k
  value_expr known (Load p) = place_expr known p
  value_expr known (Prefixed sign p) = option_map (expr.Unary (prefix_for sign)) (value_expr known p)
  value_expr known (Operated sign p q) = with_two (expr.Binary (operator_for sign)) (value_expr known p) (value_expr known q)
  value_expr known (Applied f ps) = applied_expr f (value_exprs known ps)
  value_expr known (Chosen p q r) = with_three expr.Choose (value_expr known p) (value_expr known q) (value_expr known r)
  value_expr known p = None

  pub place_expr : Knowledge → Pure → Option CExpr
  place_expr known (Name x) = expr_if (known.is_scalar x) (Some (scalar_expr (known.standing x) x))
  place_expr known (ElementOf x ps) = expr_if (known.is_array x) (element_expr x (known.dimension x) (value_exprs known ps))
  place_expr known p = None

  pub value_exprs : Knowledge → Pures → Option (List CExpr)
  value_exprs known NoPure = Some []
  value_exprs known (AndPure p ps) = one_more (value_expr known p) (value_exprs known ps)

-- ## Types

-- the types of what temporaries hold before a step
abbrev pub Kinds : Type 0
Kinds = ℕ → Option Basic

-- the type of what stands at a place, and of a value
unfoldable pub type_at : Knowledge → Pure → Option Basic
type_at known (Name x) = if_numeric (known.basic x)
type_at known (ElementOf x ps) = if_numeric (known.basic x)
type_at known p = None

unfoldable pub type_in : Knowledge → Kinds → Pure → Option Basic
type_in known kind (Constant d) = type_of_datum d
type_in known kind (Temporary k) = kind k
type_in known kind (Load p) = type_at known p
type_in known kind (Prefixed sign p) = Some (type_behind sign)
type_in known kind (Operated sign p q) = Some (type_between sign)
type_in known kind (Applied f ps) = type_by f
type_in known kind p = None

-- ## Calls of the library

abbrev pub address_expr : CExpr → CExpr
address_expr e = expr.Unary prefix.Address e

-- the object of a constant, and that of a control list
unfoldable pub constant_object : ℤ → CExpr
constant_object z = expr.Name (made_name (ConstantOf z))

unfoldable pub list_object : ℕ → CExpr
list_object k = expr.Name (made_name (ControlList (suc k)))

-- what holds a value
unfoldable pub constant_held : Knowledge → ℤ → Option CExpr
constant_held known z = expr_if (known.has z) (Some (constant_object z))

unfoldable pub datum_held : Knowledge → Datum → Option CExpr
datum_held known (IsInt z) = constant_held known z
datum_held known (IsLog true) = constant_held known (pos 1)
datum_held known (IsLog false) = constant_held known (pos 0)
datum_held known d = None

unfoldable pub held_expr : Knowledge → Pure → Option CExpr
held_expr known (Constant d) = datum_held known d
held_expr known (Temporary k) = temporary_expr known k
held_expr known (Load p) = place_expr known p
held_expr known p = None

-- what holds each of some values
unfoldable pub held_exprs : Knowledge → Pures → Option (List CExpr)
held_exprs known NoPure = Some []
held_exprs known (AndPure p ps) = one_more (held_expr known p) (held_exprs known ps)

-- a function of numbers, of operands that are held: what it gives is kept
unfoldable pub computed_step : Option CExpr → Option LibraryFunction → Option (List CExpr) → Option Item
computed_step (Some target) (Some function) (Some es) = Some (item.SetCall target (by_name function.name) (map address_expr es))
computed_step target function es = None

-- the start of an output, by its control list
unfoldable pub start_call : ℕ → Item
start_call k = item.Call (by_name (codes "s_wsle")) (address_expr (list_object k) ∷ [])

unfoldable pub start_if : Bool → Option ℕ → Option Item
start_if true place = option_map start_call place
start_if false place = None

unfoldable pub start_step : Knowledge → ℕ → Controls → Pures → Option Item
start_step known n controls (AndPure (Constant (IsInt unit)) NoPure) = start_if (is_plain controls && in_range unit) (known.list n)
start_step known n controls ps = None

-- an item, by the number of its type and by what holds it
unfoldable pub output_call : ℤ → CExpr → Item
output_call number e =
    item.Call (by_name (codes "do_lio"))
    (address_expr (constant_object number) ∷ address_expr (constant_object (pos 1)) ∷ expr.Cast to.Chars (address_expr e) ∷ expr.Cast to.Length expr.SizeInt ∷ [])

unfoldable pub output_if : Bool → Item → Option Item
output_if true call = Some call
output_if false call = None

unfoldable pub output_by : Knowledge → Option ℤ → Option CExpr → Option Item
output_by known (Some number) (Some e) = output_if (known.has number && known.has (pos 1)) (output_call number e)
output_by known number e = None

unfoldable pub output_step : Knowledge → Kinds → Pures → Option Item
output_step known kind (AndPure p NoPure) = output_by known (option_and_then kind_number (type_in known kind p)) (held_expr known p)
output_step known kind ps = None

-- the end of an output
unfoldable pub finish_step : Pures → Option Item
finish_step NoPure = Some (item.Call (by_name (codes "e_wsle")) [])
finish_step ps = None

-- the end of the run, with the text of STOP and its length
unfoldable pub stop_call : Bytes → CExpr → Item
stop_call text size = item.Call (by_name (codes "s_stop")) (expr.Str text ∷ expr.Cast to.Length size ∷ [])

unfoldable pub stop_step : Bytes → Option Item
stop_step text = option_map (stop_call text) (number_expr (pos (length text)))

-- ## Arguments of procedures

-- one number by its address; where a parameter points to it, by the parameter
unfoldable pub scalar_passed : Standing → Bytes → CExpr
scalar_passed Parameter x = variable_expr x
scalar_passed Own x = address_expr (scalar_expr Own x)
scalar_passed Result x = address_expr (scalar_expr Result x)

-- a procedure, as a function whose result is not known
unfoldable pub procedure_expr : Callee → CExpr
procedure_expr callee = expr.Cast (to.Function pointer.Unknown) (expr.Name callee.name)

unfoldable pub procedure_passed : Bool → Option Callee → Option CExpr
procedure_passed true callee = option_map procedure_expr callee
procedure_passed false callee = None

-- a name that stands alone: one number, an array, or a procedure
unfoldable pub name_passed : Knowledge → Bytes → Option CExpr
name_passed known x =
    if known.is_scalar x then Some (scalar_passed (known.standing x) x)
    else (if known.is_array x then Some (variable_expr x) else procedure_passed (known.is_procedure x) (known.routine x))

unfoldable pub argument_expr : Knowledge → Pure → Option CExpr
argument_expr known (Constant d) = option_map address_expr (datum_held known d)
argument_expr known (Temporary k) = option_map address_expr (temporary_expr known k)
argument_expr known (Name x) = name_passed known x
argument_expr known (ElementOf x ps) = option_map address_expr (place_expr known (ElementOf x ps))
argument_expr known p = None

-- arguments one after the other; a label is none
unfoldable pub argument_exprs : Knowledge → Pures → Option (List CExpr)
argument_exprs known NoPure = Some []
argument_exprs known (AndPure (Constant (IsLabel label)) ps) = argument_exprs known ps
argument_exprs known (AndPure p ps) = one_more (argument_expr known p) (argument_exprs known ps)

-- ## Calls of procedures

-- a subroutine
unfoldable pub call_step : Option Callee → Option (List CExpr) → Option Item
call_step None arguments = None
call_step (Some callee) arguments = call_by callee arguments

-- is a number wanted: that of a function of numbers, or of the alternate return of a subroutine
unfoldable pub wants_number : Wanted → Bool
wants_number (AsFunction basic width) = is_numeric basic
wants_number AsSubroutine = true

-- what is called gives a number, which is kept
unfoldable pub call_for_step : Bool → Option CExpr → Option Callee → Option (List CExpr) → Option Item
call_for_step true target (Some callee) arguments = set_call_by target callee arguments
call_for_step wanted target callee arguments = None

-- ## Steps

unfoldable pub branch_step : Option CExpr → ℕ → ℕ → Option Item
branch_step None on off = None
branch_step (Some test) on off = Some (item.Branch test on off)

-- a case of a `switch`, by its number and the position of its jump
abbrev pub case_to : ℕ → ℕ → Case
case_to number position = record { number = pos number; position = position }

-- the cases of a `switch`, so many as steps behind it each go to a label: the numbers grow by one from a first, and so do the positions
unfoldable pub cases_from : ℕ → ℕ → ℕ → List Case
cases_from number position zero = []
cases_from number position (suc count) = case_to number position ∷ cases_from (suc number) (suc position) count

-- GO TO by a number: a `switch`
unfoldable pub select_step : Option CExpr → List Case → ℕ → Option Item
select_step None cases otherwise = None
select_step (Some value) cases otherwise = Some (item.Select value cases otherwise)

-- the cases of a `switch` whose numbers are labels: a jump to each of these stands behind it
unfoldable pub label_cases : ℕ → List ℕ → List Case
label_cases position [] = []
label_cases position (label ∷ labels) = case_to label position ∷ label_cases (suc position) labels

-- GO TO by the label that a place holds: a `switch`, with a case for each label to which it may go, which may be none
unfoldable pub switch_step : ℕ → List ℕ → Option CExpr → Option Item
switch_step n labels value = select_step value (label_cases (suc n) labels) (suc n + length labels)

-- END and RETURN
unfoldable pub return_step : Option CExpr → Option Item
return_step value = option_map (λ e. item.Return (Some e)) value

unfoldable pub given_expr : Knowledge → Giving → Option CExpr
given_expr known giving.Zero = Some (expr.Number (pos 0))
given_expr known giving.Alternate = Some (expr.Number (pos 0))
given_expr known (giving.Value x) = place_expr known (Name x)
given_expr known giving.Nothing = None

-- RETURN with the number of an alternate return
unfoldable pub alternate_step : Giving → Option CExpr → Option Item
alternate_step giving.Alternate value = return_step value
alternate_step other value = None

-- an act of a transfer
unfoldable pub acting_step : Knowledge → Kinds → ℕ → step.Acting → Pures → ℕ → Option Item
acting_step known kind n (step.Starts Output Listed controls) ps m = start_step known n controls ps
acting_step known kind n step.Takes ps m = output_step known kind ps
acting_step known kind n step.Finishes ps zero = finish_step ps
acting_step known kind n what ps m = None

-- the item of a step, by its position and the types of what temporaries hold before it
unfoldable pub item_step : Knowledge → Kinds → ℕ → Step → Option Item
item_step known kind n (step.Put target p) = assign_by (place_expr known target) (value_expr known p)
item_step known kind n (step.PutLabel target label) = assign_by (place_expr known target) (constant_expr (pos label))
item_step known kind n (step.Keep k p) = assign_by (temporary_expr known k) (value_expr known p)
item_step known kind n (step.Compute k f ps) = computed_step (temporary_expr known k) (library_function f) (held_exprs known ps)
item_step known kind n (step.Unless p m) = branch_step (value_expr known p) (suc n) (suc n + m)
item_step known kind n (step.AgainIf p m) = branch_step (value_expr known p) (n - m) (suc n)
item_step known kind n (step.Skip m) = Some (item.Jump (suc n + m))
item_step known kind n (step.Again m) = Some (item.Jump (n - m))
item_step known kind n (step.Jump l) = option_map item.Jump (known.label l)
item_step known kind n (step.Select p count) = select_step (value_expr known p) (cases_from 1 (suc n) count) (suc n + count)
item_step known kind n (step.JumpBy p labels) = switch_step n labels (place_expr known p)
item_step known kind n (step.Branch k count) = select_step (value_expr known (Temporary k)) (cases_from 1 (suc n) count) (suc n + count)
item_step known kind n (step.Way l) = option_map item.Jump (known.label l)
item_step known kind n step.Pass = Some item.Nothing
item_step known kind n (step.CallFor k callee ps) = call_for_step (wants_number callee.want) (temporary_expr known k) (known.routine callee.name) (argument_exprs known ps)
item_step known kind n (step.CallSub k x ps) = call_step (known.routine x) (argument_exprs known ps)
item_step known kind n step.Back = return_step (given_expr known known.gives)
item_step known kind n (step.BackBy p) = alternate_step known.gives (value_expr known p)
item_step known kind n (step.Acts what ps m) = acting_step known kind n what ps m
item_step known kind n (step.Halt text) = stop_step text
item_step known kind n _ = None

unfoldable pub named_emission_opened : Unit {0}
unfolding negative_expr constant_expr datum_expr is_the_number added_expr sum_by sum_expr difference_expr product_expr sum_of dimension_at lower_expr size_expr distance_expr stepped_expr index_expr variable_expr result_object scalar_expr element_expr extreme_expr first_extreme alone_expr remainder_expr function_expr applied_expr expr_if temporary_object temporary_expr value_expr place_expr value_exprs type_at type_in constant_object list_object constant_held datum_held held_expr held_exprs computed_step start_call start_if start_step output_call output_if output_by output_step finish_step stop_call stop_step scalar_passed procedure_expr procedure_passed name_passed argument_expr argument_exprs call_step wants_number call_for_step branch_step cases_from select_step label_cases switch_step return_step given_expr alternate_step acting_step item_step
named_emission_opened = tt
