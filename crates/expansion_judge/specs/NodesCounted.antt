-- The nodes of expressions, with numbers past the most that may be as one more than that, and what a table has of statement functions.
use Rattle.std.specs.Prelude.{◌≡◌, ℕ, ◌+◌, min, nat_lt, Bool, false, not, ◌||◌, List, [], ◌∷◌, ◌++◌, Option, Some, None, option_map}
use Rattle.f_tree.specs.declared.expressions.Expr.{Expr}
use Rattle.f_tree.specs.declared.expressions.Expr.TheOpen as expr
use Rattle.f_tree.specs.declared.refusals.Kind.TheVariants.{BadStatementFunction}
use Rattle.f_tree.specs.declared.refusals.Refusal.{Refusal}
use Rattle.f_tree.specs.declared.statements.Stmt.{Stmt}
use Rattle.f_tree.specs.Values.{Bytes}
use Rattle.f_tree.specs.Folds.{fold_expr}
use Rattle.f_tree.specs.Attributes.{Definition}
use Rattle.declaration_rows.specs.Judgement.{unless}
use Rattle.declaration_rows.specs.NameRows.{stood}
use Rattle.declaration_rows.specs.ExpansionRows.{Sized, most_nodes, Nodes, nodes_of_function, sized_from}
use Rattle.declaration_rows.specs.ReferenceRows.{parts_of}
use Rattle.name_table.specs.declared.NameTable.{NameTable}
use Rattle.name_table.specs.Named.{value_of}
use Rattle.expansion_judge.specs.declared.counts.Counted.{Counted}

unfoldable pub capped : ℕ → ℕ
capped n = min n 10001

unfoldable pub seen : Nodes → Counted
seen n = record { count = capped n.count; past = n.past }

unfoldable pub capped_sum : ℕ → ℕ → ℕ
capped_sum a b = min (a + b) 10001

unfoldable pub one_node : Counted
one_node = record { count = 1; past = false }

unfoldable pub with_part : Counted → Counted → Counted
with_part a b = record { count = capped_sum a.count b.count; past = a.past || b.past }

unfoldable pub with_option : Counted → Option Counted → Counted
with_option a None = a
with_option a (Some b) = with_part a b

unfoldable pub onward : Counted → List Counted → Counted
onward a [] = a
onward a (c ∷ cs) = onward (with_part a c) cs

unfoldable pub expanded : Option ℕ → Counted → Counted
expanded None c = c
expanded (Some nodes) c = record { count = capped_sum c.count nodes; past = c.past || nat_lt most_nodes (capped_sum c.count nodes) }

-- a substring by its base, its first place and its last place
unfoldable pub part_counted : Counted → Option Counted → Option Counted → Counted
part_counted c from to = with_option (with_option (with_part one_node c) from) to

unfoldable pub layer_counted : NameTable ℕ → expr.Expr-F Counted → Counted
layer_counted functions (expr.Int z) = one_node
layer_counted functions (expr.Logical b) = one_node
layer_counted functions (expr.Text t) = one_node
layer_counted functions (expr.Name x) = one_node
layer_counted functions (expr.Apply x cs) = expanded (value_of functions x) (onward one_node cs)
layer_counted functions (expr.Part c from to) = part_counted c from to
layer_counted functions (expr.Minus c) = with_part one_node c
layer_counted functions (expr.Plus c) = with_part one_node c
layer_counted functions (expr.Not c) = with_part one_node c
layer_counted functions (expr.Paren c) = with_part one_node c
layer_counted functions (expr.Binary o a b) = with_part (with_part one_node a) b
layer_counted functions (expr.AltReturn label) = one_node
layer_counted functions (expr.Bind cs c) = onward (with_part one_node c) cs
layer_counted functions (expr.Bound k) = one_node

unfoldable pub count_by : NameTable ℕ → Expr → Counted
count_by functions e = fold_expr (layer_counted functions) e

unfoldable pub any_past : NameTable ℕ → List Expr → Bool
any_past functions [] = false
any_past functions (e ∷ es) = (count_by functions e).past || any_past functions es

unfoldable pub statement_rows : NameTable ℕ → Stmt → List Refusal
statement_rows functions s = stood s (unless (not (any_past functions (parts_of s.body).expressions)) BadStatementFunction)

unfoldable pub rows_by : NameTable ℕ → List Stmt → List Refusal
rows_by functions [] = []
rows_by functions (s ∷ ss) = statement_rows functions s ++ rows_by functions ss

-- a table has the nodes of statement functions
pub record AreSized (table : NameTable ℕ) (functions : List Sized) : Type 0 where
  pub sized : (x : Bytes) → value_of table x ≡ option_map capped (nodes_of_function x functions)

-- definitions are noted behind others
pub record Sizes (before after : NameTable ℕ) (ds : List Definition) : Type 0 where
  pub sized : (functions : List Sized) → AreSized before functions → AreSized after (sized_from functions ds)

-- a definition by its name and its expression, which are all that counts here
unfoldable pub definition_of : Bytes → Expr → Definition
definition_of x e = record { name = x; dummies = []; body = e }
