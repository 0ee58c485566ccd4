-- Assignments by what is known of their names. ANSI X3.9-1978, sections 10 and 15.4.
use Rattle.std.specs.Prelude.{Bool, false, not, ◌||◌, Option, Some, None}
use Rattle.f_tree.specs.declared.names.Basic.{Basic}
use Rattle.f_tree.specs.declared.names.Class.{Class}
use Rattle.f_tree.specs.declared.names.Class.TheVariants as class
use Rattle.f_tree.specs.declared.expressions.Expr.{Expr}
use Rattle.f_tree.specs.declared.expressions.Expr.TheOpen as expr
use Rattle.f_tree.specs.Folds.{fold_expr}
use Rattle.f_tree.specs.Values.{Bytes}
use Rattle.f_tree.specs.Terms.{refers}
use Rattle.f_tree.specs.Reading.{read}
use Rattle.f_tree.specs.Uses.{heading_of}
use Rattle.f_tree.specs.Lines.{Naming, is_character, is_text, is_statement_function}
use Rattle.name_facts.specs.declared.table.NameFacts.{NameFacts}
use Rattle.name_facts.specs.GivenFacts.{fact_in}
use Rattle.direct_lines.specs.References.{is_function_class}

-- a definition of a statement function, by what the table tells of its name
unfoldable pub names_function : NameFacts → Option Bytes → Bool
names_function table None = false
names_function table (Some x) = is_function_class (fact_in table x).class

unfoldable pub is_definition : NameFacts → Expr → Bool
is_definition table target = names_function table (heading_of target).applied

-- a name alone is a variable or an array of type CHARACTER, given its class and its type
unfoldable pub variable_is_text : Class → Basic → Bool
variable_is_text class.Constant basic = false
variable_is_text class.Procedure basic = false
variable_is_text class.DummyProcedure basic = false
variable_is_text class.StatementFunction basic = false
variable_is_text class.Intrinsic basic = false
variable_is_text _ basic = is_character basic

-- a name with a list is an element of type CHARACTER
unfoldable pub element_is_text : Class → Basic → Bool
element_is_text class.Result basic = false
element_is_text class.Procedure basic = false
element_is_text class.DummyProcedure basic = false
element_is_text class.StatementFunction basic = false
element_is_text class.Intrinsic basic = false
element_is_text _ basic = is_character basic

-- a variable of type CHARACTER or a part of one
unfoldable pub layer_text : NameFacts → expr.Expr-F Bool → Bool
layer_text table (expr.Name x) = variable_is_text (fact_in table x).class (fact_in table x).basic
layer_text table (expr.Apply x bs) = element_is_text (fact_in table x).class (fact_in table x).basic
layer_text table (expr.Part b from to) = b
layer_text table _ = false

unfoldable pub is_text_target : NameFacts → Expr → Bool
is_text_target table target = fold_expr (layer_text table) target

-- the definition of a statement function, the assignment of a number, or that of a text to a place with a reference
unfoldable pub is_direct_assignment : Naming → Expr → Bool
is_direct_assignment names target =
    is_statement_function names (heading_of target).applied || (not (is_text names (read names target).base) || refers (read names target).actual)
