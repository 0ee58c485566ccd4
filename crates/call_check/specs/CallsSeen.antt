-- The calls of expressions and of statements, each with its shape, by what a table has of the names.
use Rattle.std.specs.Prelude.{List, [], ◌∷◌, map, Option, Some, None, if◌then◌else◌}
use Rattle.f_tree.specs.declared.names.Basic.{Basic}
use Rattle.f_tree.specs.declared.expressions.Expr.{Expr}
use Rattle.f_tree.specs.declared.statements.Body.{Body}
use Rattle.f_tree.specs.Values.{Bytes}
use Rattle.expression_judge.specs.declared.names.Names.{Names}
use Rattle.expression_judge.specs.declared.operand.Operand.{Operand}
use Rattle.expression_judge.specs.declared.operand.Operand.TheVariants as is
use Rattle.expression_judge.specs.FoundSteps.{judged_by}
use Rattle.expression_judge.specs.SeenNames.{fact_in}
use Rattle.call_shapes.specs.declared.shapes.Argument.{Argument}
use Rattle.call_shapes.specs.declared.shapes.Argument.TheVariants.{Procedure, Label}
use Rattle.call_shapes.specs.declared.shapes.NamedShape.{NamedShape}
use Rattle.call_shapes.specs.declared.shapes.ShapeResult.{ShapeResult}
use Rattle.call_shapes.specs.declared.shapes.ShapeResult.TheVariants.{Subroutine, Function}
use Rattle.call_shapes.specs.ProcedureShapes.{argument_of_type}
use Rattle.call_shapes.specs.CallsMade.{is_procedure_class, calls_within, calls_of_body}

unfoldable pub argument_found : Operand → Basic → Argument
argument_found is.ProcedureName basic = Procedure
argument_found is.FunctionName basic = Procedure
argument_found (is.Exit label) basic = Label
argument_found _ basic = argument_of_type basic

unfoldable pub seen_argument : Names → Expr → Argument
seen_argument names e = argument_found (judged_by names e).what (judged_by names e).basic

-- a call of a name with some arguments
unfoldable pub shape_seen : ShapeResult → Names → Bytes → List Expr → NamedShape
shape_seen result names x es = record { name = x; shape = record { result = result; arguments = map (seen_argument names) es } }

unfoldable pub seen_as : ShapeResult → Names → Bytes → List Expr → List NamedShape
seen_as result names x es = if is_procedure_class (fact_in names x).class then shape_seen result names x es ∷ [] else []

unfoldable pub seen_function : Names → Bytes → List Expr → List NamedShape
seen_function names x es = seen_as (Function (fact_in names x).basic) names x es

unfoldable pub seen_subroutine : Names → Bytes → List Expr → List NamedShape
seen_subroutine names x es = seen_as Subroutine names x es

-- an expression that may be left out
unfoldable pub calls_in_option : (Bytes → List Expr → List NamedShape) → Option Expr → List NamedShape
calls_in_option applied None = []
calls_in_option applied (Some e) = calls_within applied e

unfoldable pub seen_calls : Names → Body → List NamedShape
seen_calls names b = calls_of_body (seen_subroutine names) (seen_function names) b
