-- How an expression is judged, with the least row in place of all rows: the same steps as over the lists of rows.
-- ANSI X3.9-1978, sections 5.4 and 5.7 (elements and substrings), 6 (expressions), 15.4 (statement functions), 15.5 (functions) and 15.10.
use Rattle.std.specs.Prelude.{ℕ, nat_eq, Bool, List, [], ◌∷◌, length, Option, Some, None, if◌then◌else◌}
use Rattle.f_tree.specs.declared.names.Basic.{Basic}
use Rattle.f_tree.specs.declared.names.Basic.TheVariants.{Integer, Logical, Character, Untyped}
use Rattle.f_tree.specs.declared.names.Class.TheVariants as class
use Rattle.f_tree.specs.declared.refusals.Kind.{Kind}
use Rattle.f_tree.specs.declared.refusals.Kind.TheVariants.{SyntaxError, ConflictingAttributes, OperandTypes, NumberOfSubscripts, BadStatementFunction}
use Rattle.f_tree.specs.declared.expressions.BinaryOp.{BinaryOp}
use Rattle.f_tree.specs.declared.expressions.BinaryOp.TheVariants as op
use Rattle.f_tree.specs.declared.expressions.Expr.{Expr}
use Rattle.f_tree.specs.declared.expressions.Expr.TheOpen as expr
use Rattle.f_tree.specs.Folds.{fold_expr}
use Rattle.f_tree.specs.Values.{Bytes}
use Rattle.f_tree.specs.Association.{same_basic}
use Rattle.declaration_rows.specs.Judgement.{are_comparable}
use Rattle.refusal_order.specs.Earliest.{least as lesser}
use Rattle.kind_order.specs.Unless.{unless_least}
use Rattle.expression_judge.specs.declared.operand.Operand.{Operand}
use Rattle.expression_judge.specs.declared.operand.Operand.TheVariants as is
use Rattle.expression_judge.specs.declared.operand.Found.{Found}
use Rattle.expression_judge.specs.declared.names.Fact.{Fact}
use Rattle.expression_judge.specs.declared.names.Names.{Names}
use Rattle.expression_judge.specs.declared.intrinsics.Intrinsic.{Intrinsic}
use Rattle.expression_judge.specs.SeenNames.{fact_in, is_bound_in, function_in}
use Rattle.expression_judge.specs.Intrinsics.{intrinsic_named, operands_wanted}

unfoldable pub value_found : Basic → Option Kind → Found
value_found basic fault = record { what = is.Value; basic = basic; fault = fault }

unfoldable pub place_found : Basic → Option Kind → Found
place_found basic fault = record { what = is.Place; basic = basic; fault = fault }

unfoldable pub nothing_found : Kind → Option Kind → Found
nothing_found kind fault = record { what = is.Nothing; basic = Untyped; fault = lesser (Some kind) fault }

-- PLACES IN AN EXPRESSION
unfoldable pub one_wanted : Operand → Option Kind
one_wanted is.Value = None
one_wanted is.Place = None
one_wanted (is.Array sized) = Some NumberOfSubscripts
one_wanted _ = Some OperandTypes

unfoldable pub wanted_found : Basic → Found → Option Kind
wanted_found basic f = lesser (one_wanted f.what) (unless_least (same_basic f.basic basic) OperandTypes)

unfoldable pub passed_found : Operand → Option Kind
passed_found is.FunctionName = Some OperandTypes
passed_found (is.Exit label) = Some OperandTypes
passed_found _ = None

-- LISTS: the rows of the arguments, and those that the arguments break where they stand
unfoldable pub with_wanted : Basic → Found → Option Kind
with_wanted basic f = lesser f.fault (wanted_found basic f)

-- the rows of a list, behind those that are found already
unfoldable pub plain_onward : Option Kind → List Found → Option Kind
plain_onward fault [] = fault
plain_onward fault (f ∷ fs) = plain_onward (lesser fault f.fault) fs

unfoldable pub plain_found : List Found → Option Kind
plain_found fs = plain_onward None fs

unfoldable pub passing_onward : Option Kind → List Found → Option Kind
passing_onward fault [] = fault
passing_onward fault (f ∷ fs) = passing_onward (lesser fault (lesser f.fault (passed_found f.what))) fs

unfoldable pub passing_found : List Found → Option Kind
passing_found fs = passing_onward None fs

-- too many or too few are operands out of place
unfoldable pub unwanted_found : List Found → Option Kind
unwanted_found fs = lesser (Some OperandTypes) (plain_found fs)

-- each of one type
unfoldable pub each_onward : Basic → Option Kind → List Found → Option Kind
each_onward basic fault [] = fault
each_onward basic fault (f ∷ fs) = each_onward basic (lesser fault (with_wanted basic f)) fs

unfoldable pub same_found : Basic → ℕ → List Found → Option Kind
same_found basic count fs = if nat_eq (length fs) count then each_onward basic None fs else unwanted_found fs

-- each of the type at its place
unfoldable pub paired_onward : Option Kind → List Basic → List Found → Option Kind
paired_onward fault (basic ∷ basics) (f ∷ fs) = paired_onward (lesser fault (with_wanted basic f)) basics fs
paired_onward fault _ _ = fault

unfoldable pub listed_found : List Basic → List Found → Option Kind
listed_found basics fs = if nat_eq (length fs) (length basics) then paired_onward None basics fs else unwanted_found fs

-- NAMES ALONE
unfoldable pub variable_found : Fact → Found
variable_found fact =
    if nat_eq fact.rank 0 then place_found fact.basic None else record { what = is.Array fact.sized; basic = fact.basic; fault = None }

unfoldable pub procedure_found : Fact → Found
procedure_found fact = record { what = is.ProcedureName; basic = fact.basic; fault = None }

unfoldable pub function_found : Fact → Found
function_found fact = record { what = is.FunctionName; basic = fact.basic; fault = None }

unfoldable pub bound_found : Fact → Bool → Found
bound_found fact bound = if bound then value_found fact.basic None else function_found fact

unfoldable pub name_found : Fact → Bool → Found
name_found fact bound = elim fact.class [
  | class.Constant ↦ value_found fact.basic None
  | class.Procedure ↦ procedure_found fact
  | class.DummyProcedure ↦ procedure_found fact
  | class.Intrinsic ↦ function_found fact
  | class.StatementFunction ↦ bound_found fact bound
  | class.Unit ↦ nothing_found ConflictingAttributes None
  | _ ↦ variable_found fact
]

unfoldable pub name_judged_by : Names → Bytes → Found
name_judged_by names x = name_found (fact_in names x) (is_bound_in names x)

-- NAMES WITH A LIST
unfoldable pub intrinsic_found : Option Intrinsic → List Found → Found
intrinsic_found None fs = nothing_found ConflictingAttributes (plain_found fs)
intrinsic_found (Some i) fs = value_found i.gives (same_found i.wants (operands_wanted i (length fs)) fs)

unfoldable pub expanded_found : Fact → Option (List Basic) → List Found → Found
expanded_found fact None fs = nothing_found BadStatementFunction (plain_found fs)
expanded_found fact (Some basics) fs = value_found fact.basic (listed_found basics fs)

unfoldable pub defined_found : Fact → Bool → Option (List Basic) → List Found → Found
defined_found fact bound basics fs =
    if bound then nothing_found ConflictingAttributes (plain_found fs) else expanded_found fact basics fs

unfoldable pub reference_found : Fact → List Found → Found
reference_found fact fs = value_found fact.basic (passing_found fs)

unfoldable pub element_found : Fact → List Found → Found
element_found fact fs =
    place_found fact.basic (lesser (same_found Integer (length fs) fs) (unless_least (nat_eq (length fs) fact.rank) NumberOfSubscripts))

unfoldable pub applied_found : Names → Bytes → Fact → List Found → Found
applied_found names x fact fs = elim fact.class [
  | class.Constant ↦ nothing_found ConflictingAttributes (plain_found fs)
  | class.Unit ↦ nothing_found ConflictingAttributes (plain_found fs)
  | class.Intrinsic ↦ intrinsic_found (intrinsic_named x) fs
  | class.StatementFunction ↦ defined_found fact (is_bound_in names x) (function_in names x) fs
  | class.Procedure ↦ reference_found fact fs
  | class.DummyProcedure ↦ reference_found fact fs
  | class.Result ↦ reference_found fact fs
  | _ ↦ element_found fact fs
]

-- SUBSTRINGS
unfoldable pub place_wanted : Operand → Option Kind
place_wanted is.Place = None
place_wanted (is.Array sized) = Some NumberOfSubscripts
place_wanted _ = Some OperandTypes

unfoldable pub end_found : Option Found → Option Kind
end_found None = None
end_found (Some f) = with_wanted Integer f

unfoldable pub part_found : Found → Option Kind → Option Kind → Found
part_found f from to =
    place_found Character (lesser f.fault (lesser (place_wanted f.what) (lesser (unless_least (same_basic f.basic Character) OperandTypes) (lesser from to))))

-- OPERATORS
unfoldable pub sign_found : Basic → Found → Found
sign_found basic f = value_found basic (with_wanted basic f)

unfoldable pub paren_found : Found → Found
paren_found f = value_found f.basic (lesser f.fault (one_wanted f.what))

unfoldable pub both_found : Basic → Found → Found → Found
both_found basic a b = value_found basic (lesser (with_wanted basic a) (with_wanted basic b))

unfoldable pub compared_found : Found → Found → Found
compared_found a b =
    value_found Logical (lesser (lesser a.fault (one_wanted a.what)) (lesser (lesser b.fault (one_wanted b.what)) (unless_least (are_comparable a.basic b.basic) OperandTypes)))

unfoldable pub binary_found : BinaryOp → Found → Found → Found
binary_found op.Power a b = both_found Integer a b
binary_found op.Times a b = both_found Integer a b
binary_found op.Divide a b = both_found Integer a b
binary_found op.Plus a b = both_found Integer a b
binary_found op.Minus a b = both_found Integer a b
binary_found op.Concatenate a b = both_found Character a b
binary_found op.Less a b = compared_found a b
binary_found op.LessOrEqual a b = compared_found a b
binary_found op.Equal a b = compared_found a b
binary_found op.NotEqual a b = compared_found a b
binary_found op.Greater a b = compared_found a b
binary_found op.GreaterOrEqual a b = compared_found a b
binary_found op.And a b = both_found Logical a b
binary_found op.Or a b = both_found Logical a b
binary_found op.Equivalent a b = both_found Logical a b
binary_found op.NotEquivalent a b = both_found Logical a b

unfoldable pub exit_found : ℕ → Found
exit_found label = record { what = is.Exit label; basic = Untyped; fault = None }

-- one layer of an expression, its parts being judged
unfoldable pub layer_found : Names → expr.Expr-F Found → Found
layer_found names (expr.Int z) = value_found Integer None
layer_found names (expr.Logical b) = value_found Logical None
layer_found names (expr.Text cs) = value_found Character None
layer_found names (expr.Name x) = name_judged_by names x
layer_found names (expr.Apply x fs) = applied_found names x (fact_in names x) fs
layer_found names (expr.Part f from to) = part_found f (end_found from) (end_found to)
layer_found names (expr.Minus f) = sign_found Integer f
layer_found names (expr.Plus f) = sign_found Integer f
layer_found names (expr.Not f) = sign_found Logical f
layer_found names (expr.Paren f) = paren_found f
layer_found names (expr.Binary op a b) = binary_found op a b
layer_found names (expr.AltReturn label) = exit_found label
layer_found names (expr.Bind fs f) = nothing_found SyntaxError (lesser (plain_found fs) f.fault)
layer_found names (expr.Bound k) = nothing_found SyntaxError None

-- an expression by what it is and by the least row
unfoldable pub judged_by : Names → Expr → Found
judged_by names e = fold_expr (layer_found names) e
