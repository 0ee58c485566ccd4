-- The calls that a statement makes, from the left, each with its shape: CALL, and references to functions by names that are no dummy procedures, no
-- statement functions and no intrinsic functions. A call in the expression of a statement function stands at its definition alone.
-- ANSI X3.9-1978, sections 15.4 (statement functions), 15.5.2 and 15.6.2 (references), and 15.9.3 (actual arguments).
use Rattle.std.specs.Prelude.{Bool, true, false, List, [], ◌∷◌, ◌++◌, map, if◌then◌else◌}
use Rattle.f_tree.specs.declared.names.Basic.{Basic}
use Rattle.f_tree.specs.declared.names.Class.{Class}
use Rattle.f_tree.specs.declared.names.Class.TheVariants as class
use Rattle.f_tree.specs.declared.expressions.Expr.{Expr, Int, Logical, Text, Name, Apply', Part', Minus', Plus', Not', Paren', Binary', AltReturn, Bind', Bound, Row_of-Expr, end_of-Expr, more_of-Expr, None', Some', Held-Expr-Part-1}
use Rattle.f_tree.specs.declared.statements.Body.{Body}
use Rattle.f_tree.specs.declared.statements.Body.TheOpen as body
use Rattle.f_tree.specs.declared.units.Unit.{Unit as WrittenUnit}
use Rattle.f_tree.specs.Folds.{fold_body}
use Rattle.f_tree.specs.Values.{Bytes}
use Rattle.f_tree.specs.Attributes.{option_list, definitions_in, arrays_of}
use Rattle.declaration_rows.specs.Judgement.{What, AValue, APlace, AnArray, AProcedureName, AFunctionName, AnExit, NoOperand, Known, judge}
use Rattle.declaration_rows.specs.ReferenceRows.{expressions_of_control, expressions_of_items, expressions_of_controls, known_for}
use Rattle.call_shapes.specs.declared.shapes.Argument.{Argument}
use Rattle.call_shapes.specs.declared.shapes.Argument.TheVariants.{Procedure, Label}
use Rattle.call_shapes.specs.declared.shapes.NamedShape.{NamedShape}
use Rattle.call_shapes.specs.declared.shapes.ShapeResult.{ShapeResult}
use Rattle.call_shapes.specs.declared.shapes.ShapeResult.TheVariants.{Subroutine, Function}
use Rattle.call_shapes.specs.ProcedureShapes.{argument_of_type, procedure_shapes_opened}

-- an actual argument by what it is and by its type
unfoldable pub argument_by : What → Basic → Argument
argument_by AValue basic = argument_of_type basic
argument_by APlace basic = argument_of_type basic
argument_by (AnArray sized) basic = argument_of_type basic
argument_by AProcedureName basic = Procedure
argument_by AFunctionName basic = Procedure
argument_by (AnExit label) basic = Label
argument_by NoOperand basic = argument_of_type basic

unfoldable pub actual_argument : Known → Expr → Argument
actual_argument known e = argument_by (judge known e).what (judge known e).basic

-- a name that may stand for a procedure of the set: an external one, or the unit's own or that of an entry
unfoldable pub is_procedure_class : Class → Bool
is_procedure_class class.Procedure = true
is_procedure_class class.Result = true
is_procedure_class class.Unit = true
is_procedure_class _ = false

unfoldable pub call_as : ShapeResult → Known → Bytes → List Expr → List NamedShape
call_as result known x es =
    if is_procedure_class (known.attribute x).class
    then record { name = x; shape = record { result = result; arguments = map (actual_argument known) es } } ∷ []
    else []

-- a name with a list: a function of the type that the name has here
unfoldable pub function_call : Known → Bytes → List Expr → List NamedShape
function_call known x es = call_as (Function (known.attribute x).basic) known x es

unfoldable pub subroutine_call : Known → Bytes → List Expr → List NamedShape
subroutine_call known x es = call_as Subroutine known x es

-- the expressions of a list
unfoldable pub listed : {m : _} → Row_of-Expr m → List Expr
listed end_of-Expr = []
listed (more_of-Expr e row) = e ∷ listed row

-- EXPRESSIONS, given the calls that a name with a list makes. The last two forms are in no text
module _ (applied : Bytes → List Expr → List NamedShape) where
  unfoldable mutual
    pub calls_within : Expr → List NamedShape
    calls_within (Int z) = []
    calls_within (Logical b) = []
    calls_within (Text cs) = []
    calls_within (Name x) = []
    calls_within (Apply' x s row) = applied x (listed row) ++ calls_in_row row
    calls_within (Part' s (more_of-Expr e r) from to) = calls_within e ++ (calls_in_held from ++ calls_in_held to)
    calls_within (Minus' s (more_of-Expr e r)) = calls_within e
    calls_within (Plus' s (more_of-Expr e r)) = calls_within e
    calls_within (Not' s (more_of-Expr e r)) = calls_within e
    calls_within (Paren' s (more_of-Expr e r)) = calls_within e
    calls_within (Binary' op s (more_of-Expr a r) t (more_of-Expr b q)) = calls_within a ++ calls_within b
    calls_within (AltReturn label) = []
    calls_within (Bind' s row t (more_of-Expr e q)) = []
    calls_within (Bound k) = []

    pub calls_in_row : {m : _} → Row_of-Expr m → List NamedShape
    calls_in_row end_of-Expr = []
    calls_in_row (more_of-Expr e row) = calls_within e ++ calls_in_row row

    pub calls_in_held : Held-Expr-Part-1 → List NamedShape
    calls_in_held None' = []
    calls_in_held (Some' p (more_of-Expr e r)) = calls_within e

unfoldable pub calls_among : (Bytes → List Expr → List NamedShape) → List Expr → List NamedShape
calls_among applied [] = []
calls_among applied (e ∷ es) = calls_within applied e ++ calls_among applied es

-- STATEMENTS, given besides the calls that CALL makes itself. CALL stands before its arguments, and a logical IF before its statement
module _ (called applied : Bytes → List Expr → List NamedShape) where
  unfoldable pub layer_calls : body.Body-F (List NamedShape) → List NamedShape
  layer_calls (body.Assign target e) = calls_among applied (target ∷ e ∷ [])
  layer_calls (body.GotoList labels e) = calls_among applied (e ∷ [])
  layer_calls (body.IfSign e below at above) = calls_among applied (e ∷ [])
  layer_calls (body.IfOne e calls) = calls_within applied e ++ calls
  layer_calls (body.IfThen e) = calls_among applied (e ∷ [])
  layer_calls (body.ElseIf e) = calls_among applied (e ∷ [])
  layer_calls (body.Do label control) = calls_among applied (expressions_of_control control)
  layer_calls (body.DoWhile label e) = calls_among applied (e ∷ [])
  layer_calls (body.Call x es) = called x es ++ calls_among applied es
  layer_calls (body.Return e) = calls_among applied (option_list e)
  layer_calls (body.Transfer way controls items) = calls_among applied (expressions_of_controls controls ++ expressions_of_items items)
  layer_calls (body.Auxiliary which controls) = calls_among applied (expressions_of_controls controls)
  layer_calls _ = []

  unfoldable pub calls_of_body : Body → List NamedShape
  calls_of_body b = fold_body layer_calls b

-- what is known of the names tells which are calls
unfoldable pub calls_known : Known → Body → List NamedShape
calls_known known b = calls_of_body (subroutine_call known) (function_call known) b

-- in the definition of a statement function its dummy arguments are known
unfoldable pub calls_of_statement : WrittenUnit → Body → List NamedShape
calls_of_statement u b = calls_known (known_for u (definitions_in (arrays_of u) b)) b

unfoldable pub calls_made_opened : Unit {0}
unfolding procedure_shapes_opened argument_by actual_argument is_procedure_class call_as function_call subroutine_call listed calls_within calls_in_row calls_in_held calls_among layer_calls calls_of_body calls_known calls_of_statement
calls_made_opened = tt
