-- Which expressions have a reference to a function, by what their names are. ANSI X3.9-1978, sections 15.2, 15.4, 15.5 and 15.10.
use Rattle.std.specs.List.{list_any}
use Rattle.std.specs.Prelude.{ℕ, nat_eq, Bool, true, false, not, ◌&&◌, ◌||◌, List, [], ◌∷◌, map, length, Option, Some, None, if◌then◌else◌}
use Rattle.f_tree.specs.declared.names.Class.{Class}
use Rattle.f_tree.specs.declared.names.Class.TheVariants as class
use Rattle.f_tree.specs.declared.expressions.Expr.{Expr}
use Rattle.f_tree.specs.declared.expressions.Expr.TheOpen as expr
use Rattle.f_tree.specs.declared.statements.Stmt.{Stmt}
use Rattle.f_tree.specs.declared.units.Unit.{Unit as WrittenUnit}
use Rattle.f_tree.specs.Folds.{fold_expr}
use Rattle.f_tree.specs.Values.{Bytes}
use Rattle.f_tree.specs.Terms.{Function, TextLength, Term, refers}
use Rattle.f_tree.specs.Reading.{function_named}
use Rattle.f_tree.specs.Attributes.{expansion_among}
use Rattle.name_facts.specs.declared.table.NameFacts.{NameFacts}
use Rattle.name_facts.specs.GivenFacts.{fact_in}
use Rattle.direct_lines.specs.Definitions.{is_name, expansions_in}

-- ## Expressions

-- what is known of names: their classes, and whether one that stands alone stands for an expression with a reference
pub record Known : Type 0 where
  pub class : Bytes → Class
  pub stands : Bytes → Bool

unfoldable pub any : List Bool → Bool
any [] = false
any (b ∷ bs) = b || any bs

unfoldable pub if_written : Option Bool → Bool
if_written None = false
if_written (Some b) = b

-- an intrinsic function of no known name is a function of the program
unfoldable pub is_unknown : Option Function → Bool
is_unknown None = true
is_unknown (Some f) = false

unfoldable pub is_text_length : Option Function → Bool
is_text_length (Some TextLength) = true
is_text_length _ = false

-- a name with a list that is a function or a statement function
unfoldable pub is_reference : Bytes → Class → Bool
is_reference x class.Intrinsic = is_unknown (function_named x)
is_reference x class.Procedure = true
is_reference x class.DummyProcedure = true
is_reference x class.Result = true
is_reference x class.StatementFunction = true
is_reference x _ = false

-- LEN
unfoldable pub is_length : Bytes → Class → Bool
is_length x class.Intrinsic = is_text_length (function_named x)
is_length x _ = false

-- LEN of another number of arguments than one has none of them (15.10)
unfoldable pub has_arguments : Bytes → Class → ℕ → Bool
has_arguments x c count = not (is_length x c) || nat_eq count 1

unfoldable pub layer_refers : Known → expr.Expr-F Bool → Bool
layer_refers known (expr.Int z) = false
layer_refers known (expr.Logical b) = false
layer_refers known (expr.Text cs) = false
layer_refers known (expr.Name x) = known.stands x
layer_refers known (expr.Apply x bs) = is_reference x (known.class x) || (has_arguments x (known.class x) (length bs) && any bs)
layer_refers known (expr.Part b from to) = b || (if_written from || if_written to)
layer_refers known (expr.Minus b) = b
layer_refers known (expr.Plus b) = b
layer_refers known (expr.Not b) = b
layer_refers known (expr.Paren b) = b
layer_refers known (expr.Binary op a b) = a || b
layer_refers known (expr.AltReturn label) = false
layer_refers known (expr.Bind bs b) = true
layer_refers known (expr.Bound k) = false

unfoldable pub has_reference : Known → Expr → Bool
has_reference known e = fold_expr (layer_refers known) e

-- a name with a list
unfoldable pub applied_refers : Known → Bytes → List Expr → Bool
applied_refers known x es = is_reference x (known.class x) || (has_arguments x (known.class x) (length es) && any (map (has_reference known) es))

-- ## Names

unfoldable pub is_function_class : Class → Bool
is_function_class class.StatementFunction = true
is_function_class _ = false

unfoldable pub term_refers : Option Term → Bool
term_refers None = false
term_refers (Some t) = refers t

-- the expression of a statement function that statements define has a reference
unfoldable pub expansion_refers : WrittenUnit → List Stmt → Bytes → Bool
expansion_refers u ss x = term_refers (expansion_among x (expansions_in u ss))

-- the class of a name in a definition with these arguments: its dummy arguments are expanded as statement functions are
unfoldable pub class_in : NameFacts → List Expr → Bytes → Class
class_in table dummies x = if list_any (is_name x) dummies then class.StatementFunction else (fact_in table x).class

-- a name alone that is a statement function, and no dummy argument, whose expression has a reference
unfoldable pub stands_for_reference : WrittenUnit → NameFacts → List Stmt → List Expr → Bytes → Bool
stands_for_reference u table ss dummies x = not (list_any (is_name x) dummies) && (is_function_class (fact_in table x).class && expansion_refers u ss x)

-- what is known in a definition behind statements
unfoldable pub known_by : WrittenUnit → NameFacts → List Stmt → List Expr → Known
known_by u table ss dummies = record { class = class_in table dummies; stands = stands_for_reference u table ss dummies }
