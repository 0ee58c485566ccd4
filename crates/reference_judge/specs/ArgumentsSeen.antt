-- What each expression is as an actual argument, and the references in it, by what a table has of the names.
use Rattle.std.specs.Prelude.{Bool, true, false, not, ◌&&◌, List, [], ◌∷◌, ◌++◌, map, Option, Some, None, is_some, if◌then◌else◌}
use Rattle.f_tree.specs.declared.names.Basic.{Basic}
use Rattle.f_tree.specs.declared.names.Class.{Class}
use Rattle.f_tree.specs.declared.names.Class.TheVariants as class
use Rattle.f_tree.specs.declared.expressions.BinaryOp.{BinaryOp}
use Rattle.f_tree.specs.declared.expressions.BinaryOp.TheVariants as op
use Rattle.f_tree.specs.declared.expressions.Expr.{Expr}
use Rattle.f_tree.specs.declared.expressions.Expr.TheOpen as expr
use Rattle.f_tree.specs.Values.{Bytes}
use Rattle.f_tree.specs.Folds.{fold_expr}
use Rattle.f_tree.specs.Lines.{is_character}
use Rattle.declaration_rows.specs.ReferenceRows as rows
use Rattle.declaration_rows.specs.ReferenceRows.{Reference}
use Rattle.expression_judge.specs.declared.intrinsics.Intrinsic.{Intrinsic}
use Rattle.expression_judge.specs.declared.names.Names.{Names}
use Rattle.expression_judge.specs.declared.operand.Found.{Found}
use Rattle.expression_judge.specs.declared.operand.Operand.{Operand}
use Rattle.expression_judge.specs.declared.operand.Operand.TheVariants as is
use Rattle.expression_judge.specs.FoundSteps.{name_judged_by}
use Rattle.expression_judge.specs.Intrinsics.{intrinsic_named}
use Rattle.expression_judge.specs.SeenNames.{fact_in, function_in, is_bound_in}
use Rattle.reference_judge.specs.declared.arguments.Argument.{Argument}
use Rattle.reference_judge.specs.declared.arguments.ArgumentKind.{ArgumentKind}
use Rattle.reference_judge.specs.declared.arguments.ArgumentKind.TheVariants as kind

unfoldable pub kind_in : ArgumentKind → rows.ArgumentKind
kind_in kind.Number = rows.Numeric
kind_in kind.Text = rows.Textual
kind_in kind.Procedure = rows.Procedural
kind_in kind.Exit = rows.Exit

-- a value, a variable or an array
unfoldable pub value_argument : Bool → Argument
value_argument true = record { kind = kind.Text; is_text = true }
value_argument false = record { kind = kind.Number; is_text = false }

unfoldable pub exit_argument : Argument
exit_argument = record { kind = kind.Exit; is_text = false }

unfoldable pub operand_argument : Operand → Bool → Argument
operand_argument is.ProcedureName textual = record { kind = kind.Procedure; is_text = textual }
operand_argument is.FunctionName textual = record { kind = kind.Procedure; is_text = textual }
operand_argument (is.Exit label) textual = record { kind = kind.Exit; is_text = textual }
operand_argument _ textual = value_argument textual

unfoldable pub found_argument : Found → Argument
found_argument f = operand_argument f.what (is_character f.basic)

-- NAMES WITH A LIST: is the value a text
unfoldable pub intrinsic_text : Option Intrinsic → Bool
intrinsic_text None = false
intrinsic_text (Some i) = is_character i.gives

unfoldable pub defined_text : Names → Bytes → Basic → Bool
defined_text names x basic = not (is_bound_in names x) && (is_some (function_in names x) && is_character basic)

unfoldable pub applied_text : Names → Bytes → Class → Basic → Bool
applied_text names x class.Constant basic = false
applied_text names x class.Unit basic = false
applied_text names x class.Intrinsic basic = intrinsic_text (intrinsic_named x)
applied_text names x class.StatementFunction basic = defined_text names x basic
applied_text names x _ basic = is_character basic

unfoldable pub list_gives_text : Names → Bytes → Bool
list_gives_text names x = applied_text names x (fact_in names x).class (fact_in names x).basic

unfoldable pub joins_texts : BinaryOp → Bool
joins_texts op.Concatenate = true
joins_texts _ = false

-- AN EXPRESSION as an actual argument, with the references in it
pub record Sight : Type 0 where
  pub argument : Argument
  pub references : List Reference

unfoldable pub all_references : List Sight → List Reference
all_references [] = []
all_references (t ∷ ts) = t.references ++ all_references ts

unfoldable pub option_references : Option Sight → List Reference
option_references None = []
option_references (Some t) = t.references

unfoldable pub kinds_of : List Sight → List rows.ArgumentKind
kinds_of ts = map (λ (t : Sight). kind_in t.argument.kind) ts

unfoldable pub reference_by : Bytes → List Sight → Reference
reference_by x ts = record { name = x; arguments = kinds_of ts }

-- a name with a list refers to a procedure where it is one, or the function itself
unfoldable pub is_called_by_list : Class → Bool
is_called_by_list class.Procedure = true
is_called_by_list class.DummyProcedure = true
is_called_by_list class.Result = true
is_called_by_list _ = false

unfoldable pub called_references : Names → Bytes → List Sight → List Reference
called_references names x ts = if is_called_by_list (fact_in names x).class then reference_by x ts ∷ [] else []

unfoldable pub part_references : Sight → Option Sight → Option Sight → List Reference
part_references t from to = t.references ++ (option_references from ++ option_references to)

unfoldable pub layer_argument : Names → expr.Expr-F Sight → Argument
layer_argument names (expr.Text cs) = value_argument true
layer_argument names (expr.Name x) = found_argument (name_judged_by names x)
layer_argument names (expr.Apply x ts) = value_argument (list_gives_text names x)
layer_argument names (expr.Part t from to) = value_argument true
layer_argument names (expr.Paren t) = value_argument t.argument.is_text
layer_argument names (expr.Binary o a b) = value_argument (joins_texts o)
layer_argument names (expr.AltReturn label) = exit_argument
layer_argument names _ = value_argument false

unfoldable pub layer_references : Names → expr.Expr-F Sight → List Reference
layer_references names (expr.Apply x ts) = all_references ts ++ called_references names x ts
layer_references names (expr.Part t from to) = part_references t from to
layer_references names (expr.Minus t) = t.references
layer_references names (expr.Plus t) = t.references
layer_references names (expr.Not t) = t.references
layer_references names (expr.Paren t) = t.references
layer_references names (expr.Binary o a b) = a.references ++ b.references
layer_references names _ = []

unfoldable pub layer_sight : Names → expr.Expr-F Sight → Sight
layer_sight names layer = record { argument = layer_argument names layer; references = layer_references names layer }

unfoldable pub sight_by : Names → Expr → Sight
sight_by names e = fold_expr (layer_sight names) e
