-- What a table of names makes of an expression, and of which expressions it tells enough to lower them.
-- ANSI X3.9-1978, sections 5.4, 6, 15.2 to 15.5 and 15.10.
use Rattle.std.specs.Prelude.{Bool, true, false, ◌&&◌, List, [], ◌∷◌, Option, Some, None, option_map}
use Rattle.f_tree.specs.declared.names.Class.{Class}
use Rattle.f_tree.specs.declared.names.Class.TheVariants as class
use Rattle.f_tree.specs.declared.expressions.BinaryOp.{BinaryOp}
use Rattle.f_tree.specs.declared.expressions.BinaryOp.TheVariants as op
use Rattle.f_tree.specs.declared.expressions.Expr.{Expr}
use Rattle.f_tree.specs.declared.expressions.Expr.TheOpen as expr
use Rattle.f_tree.specs.Folds.{fold_expr}
use Rattle.f_tree.specs.Values.{Bytes}
use Rattle.f_tree.specs.Terms.{Function, TextLength}
use Rattle.f_tree.specs.Facts.{Attribute}
use Rattle.f_tree.specs.Reading.{Read, read, function_named}
use Rattle.name_facts.specs.declared.fact.NameFact.{NameFact}
use Rattle.name_facts.specs.declared.table.NameFacts.{NameFacts}
use Rattle.name_facts.specs.GivenFacts.{datum_of, fact_in, IsNameFact}

-- what is said of a name as an attribute; statement functions are not told, nor dimensions
unfoldable pub attribute_of : NameFact → Attribute
attribute_of fact = record {
  basic = fact.basic;
  class = fact.class;
  width = fact.width;
  dimensions = [];
  bounds = [];
  constant = option_map datum_of fact.constant;
  expansion = None;
}

-- what the table says of a name
unfoldable pub attribute_in : NameFacts → Bytes → Attribute
attribute_in table x = attribute_of (fact_in table x)

-- an expression, its names being what the table says
unfoldable pub reading : NameFacts → Expr → Read
reading table e = read (attribute_in table) e

-- is a name alone lowered
unfoldable pub name_lowers : Class → Bool
name_lowers class.StatementFunction = false
name_lowers _ = true

-- is an intrinsic function lowered: LEN asks its operand for no value
unfoldable pub function_lowers : Option Function → Bool
function_lowers (Some TextLength) = false
function_lowers _ = true

-- is a name with a list lowered
unfoldable pub applied_lowers : Bytes → Class → Bool
applied_lowers x class.StatementFunction = false
applied_lowers x class.Intrinsic = function_lowers (function_named x)
applied_lowers x _ = true

-- is an operator lowered
unfoldable pub operator_lowers : BinaryOp → Bool
operator_lowers op.Concatenate = false
operator_lowers _ = true

-- are all of a list lowered
unfoldable pub all_lower : List Bool → Bool
all_lower [] = true
all_lower (b ∷ bs) = b && all_lower bs

-- is one layer of an expression lowered, given whether its parts are
unfoldable pub layer_lowers : NameFacts → expr.Expr-F Bool → Bool
layer_lowers table (expr.Int z) = true
layer_lowers table (expr.Logical b) = true
layer_lowers table (expr.Text cs) = true
layer_lowers table (expr.Name x) = name_lowers (fact_in table x).class
layer_lowers table (expr.Apply x bs) = applied_lowers x (fact_in table x).class && all_lower bs
layer_lowers table (expr.Part b from to) = false
layer_lowers table (expr.Minus b) = b
layer_lowers table (expr.Plus b) = b
layer_lowers table (expr.Not b) = b
layer_lowers table (expr.Paren b) = b
layer_lowers table (expr.Binary op a b) = operator_lowers op && (a && b)
layer_lowers table (expr.AltReturn label) = true
layer_lowers table (expr.Bind bs b) = false
layer_lowers table (expr.Bound k) = false

-- is an expression of a form that is lowered
unfoldable pub is_lowered_value : NameFacts → Expr → Bool
is_lowered_value table e = fold_expr (layer_lowers table) e

-- the table tells what each name is
pub record AreFactsOf (names : Bytes → Attribute) (table : NameFacts) : Type 0 where
  pub facts : (x : Bytes) → IsNameFact (names x) (fact_in table x)

unfoldable pub table_names_opened : Unit {0}
unfolding attribute_of attribute_in reading name_lowers function_lowers applied_lowers operator_lowers all_lower layer_lowers is_lowered_value
table_names_opened = tt
