-- The rows of formats and format identifiers, by what a table has of the names.
use Rattle.std.specs.Prelude.{Bool, true, false, ◌||◌, List, [], ◌∷◌, ◌++◌, Option, Some, None}
use Rattle.f_tree.specs.declared.names.Class.{Class}
use Rattle.f_tree.specs.declared.names.Class.TheVariants as class
use Rattle.f_tree.specs.declared.expressions.Expr.{Expr}
use Rattle.f_tree.specs.declared.refusals.Kind.{Kind}
use Rattle.f_tree.specs.declared.refusals.Kind.TheVariants.{BadFormat}
use Rattle.f_tree.specs.declared.refusals.Refusal.{Refusal}
use Rattle.f_tree.specs.declared.statements.Body.{Body}
use Rattle.f_tree.specs.declared.statements.Body.TheOpen as body
use Rattle.f_tree.specs.declared.statements.Control.{Control}
use Rattle.f_tree.specs.declared.statements.ControlValue.{ControlValue}
use Rattle.f_tree.specs.declared.statements.ControlValue.TheVariants as value
use Rattle.f_tree.specs.declared.statements.ControlWord.{ControlWord}
use Rattle.f_tree.specs.declared.statements.ControlWord.TheVariants as word
use Rattle.f_tree.specs.declared.statements.Stmt.{Stmt}
use Rattle.f_tree.specs.Folds.{fold_body}
use Rattle.f_tree.specs.Uses.{heading_of}
use Rattle.f_tree.specs.Values.{Bytes}
use Rattle.declaration_rows.specs.Judgement.{unless}
use Rattle.declaration_rows.specs.NameRows.{stood}
use Rattle.declaration_rows.specs.FormatRows.{format_text_rows, literal_of}
use Rattle.expression_judge.specs.declared.names.Names.{Names}
use Rattle.expression_judge.specs.declared.operand.Operand.{Operand}
use Rattle.expression_judge.specs.declared.operand.Operand.TheVariants as is
use Rattle.expression_judge.specs.SeenNames.{fact_in}
use Rattle.expression_judge.specs.FoundSteps.{judged_by}

unfoldable pub is_constant_class : Class → Bool
is_constant_class class.Constant = true
is_constant_class _ = false

unfoldable pub is_constant_name : Names → Option Bytes → Bool
is_constant_name names None = false
is_constant_name names (Some x) = is_constant_class (fact_in names x).class

unfoldable pub is_identifier : Operand → Bool
is_identifier is.Place = true
is_identifier (is.Array sized) = true
is_identifier is.Nothing = true
is_identifier _ = false

unfoldable pub identifies : Names → Expr → Bool
identifies names e = is_constant_name names (heading_of e).alone || is_identifier (judged_by names e).what

unfoldable pub identifier_found : Names → Expr → Option Bytes → List Kind
identifier_found names e (Some text) = format_text_rows text
identifier_found names e None = unless (identifies names e) BadFormat

unfoldable pub value_found : Names → ControlValue → List Kind
value_found names (value.Value e) = identifier_found names e (literal_of e)
value_found names _ = []

unfoldable pub word_found : Names → ControlWord → ControlValue → List Kind
word_found names word.Format v = value_found names v
word_found names _ v = []

unfoldable pub words_found : Names → List Control → List Kind
words_found names [] = []
words_found names (c ∷ cs) = word_found names c.word c.value ++ words_found names cs

unfoldable pub layer_found : Names → body.Body-F (List Kind) → List Kind
layer_found names (body.Format text) = format_text_rows text
layer_found names (body.Transfer way controls items) = words_found names controls
layer_found names (body.IfOne e rows) = rows
layer_found names _ = []

unfoldable pub body_found : Names → Body → List Kind
body_found names b = fold_body (layer_found names) b

unfoldable pub rows_found : Names → List Stmt → List Refusal
rows_found names [] = []
rows_found names (s ∷ ss) = stood s (body_found names s.body) ++ rows_found names ss
