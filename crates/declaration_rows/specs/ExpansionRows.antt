-- References of statement functions that expand to too much (F40). ANSI X3.9-1978, section 15.4. An expansion has a node for the reference,
-- those of its arguments, and those of the function's expression, in which each reference is expanded.
use Rattle.std.specs.Prelude.{ℕ, suc, ◌+◌, nat_lt, Bool, not, ◌||◌, List, [], ◌∷◌, ◌++◌, map, bytes_eq, Option, Some, None, if◌then◌else◌}
use Rattle.std.specs.List.{list_any}
use Rattle.fortran_text.specs.f_tree.declared.expressions.Expr.{Expr}
use Rattle.fortran_text.specs.f_tree.declared.expressions.Expr.TheOpen as expr
use Rattle.fortran_text.specs.f_tree.declared.refusals.Kind.TheVariants.{BadStatementFunction}
use Rattle.fortran_text.specs.f_tree.declared.refusals.Refusal.{Refusal}
use Rattle.fortran_text.specs.f_tree.declared.statements.Stmt.{Stmt}
use Rattle.fortran_text.specs.f_tree.declared.units.Unit.{Unit as WrittenUnit}
use Rattle.fortran_text.specs.f_tree.Values.{Bytes}
use Rattle.fortran_text.specs.f_tree.Folds.{fold_expr}
use Rattle.fortran_text.specs.f_tree.Attributes.{Definition, option_list}
use Rattle.declaration_rows.specs.Judgement.{unless}
use Rattle.declaration_rows.specs.NameRows.{definitions_of, stood}
use Rattle.declaration_rows.specs.ReferenceRows.{parts_of}

unfoldable pub most_nodes : ℕ
most_nodes = 10000

-- a statement function with the nodes of its expanded expression
pub record Sized : Type 0 where
  pub name : Bytes
  pub nodes : ℕ

-- the nodes of an expression, and whether a reference in it expands to too many
pub record Nodes : Type 0 where
  pub count : ℕ
  pub past : Bool

unfoldable pub total : List Nodes → ℕ
total [] = 0
total (n ∷ ns) = n.count + total ns

unfoldable pub any_past : List Nodes → Bool
any_past ns = list_any (λ (n : Nodes). n.past) ns

unfoldable pub node_over : List Nodes → Nodes
node_over ns = record { count = suc (total ns); past = any_past ns }

unfoldable pub nodes_of_function : Bytes → List Sized → Option ℕ
nodes_of_function x [] = None
nodes_of_function x (s ∷ ss) = if bytes_eq s.name x then Some s.nodes else nodes_of_function x ss

unfoldable pub expanded_by : Option ℕ → Nodes → Nodes
expanded_by None n = n
expanded_by (Some nodes) n = record { count = n.count + nodes; past = n.past || nat_lt most_nodes (n.count + nodes) }

unfoldable pub layer_nodes : List Sized → expr.Expr-F Nodes → Nodes
layer_nodes functions (expr.Int z) = node_over []
layer_nodes functions (expr.Logical b) = node_over []
layer_nodes functions (expr.Text t) = node_over []
layer_nodes functions (expr.Name x) = node_over []
layer_nodes functions (expr.Apply x ns) = expanded_by (nodes_of_function x functions) (node_over ns)
layer_nodes functions (expr.Part n from to) = node_over (n ∷ option_list from ++ option_list to)
layer_nodes functions (expr.Minus n) = node_over (n ∷ [])
layer_nodes functions (expr.Plus n) = node_over (n ∷ [])
layer_nodes functions (expr.Not n) = node_over (n ∷ [])
layer_nodes functions (expr.Paren n) = node_over (n ∷ [])
layer_nodes functions (expr.Binary o a b) = node_over (a ∷ b ∷ [])
layer_nodes functions (expr.AltReturn label) = node_over []
layer_nodes functions (expr.Bind ns n) = node_over (n ∷ ns)
layer_nodes functions (expr.Bound k) = node_over []

unfoldable pub nodes_of : List Sized → Expr → Nodes
nodes_of functions e = fold_expr (layer_nodes functions) e

-- each definition over those before it
unfoldable pub sized_from : List Sized → List Definition → List Sized
sized_from functions [] = functions
sized_from functions (d ∷ ds) = sized_from (functions ++ record { name = d.name; nodes = (nodes_of functions d.body).count } ∷ []) ds

unfoldable pub functions_of : WrittenUnit → List Sized
functions_of u = sized_from [] (definitions_of u)

unfoldable pub expansion_rows_from : List Sized → List Stmt → List Refusal
expansion_rows_from functions [] = []
expansion_rows_from functions (s ∷ ss) =
    stood s (unless (not (any_past (map (nodes_of functions) (parts_of s.body).expressions))) BadStatementFunction) ++ expansion_rows_from functions ss

unfoldable pub unit_expansion_rows : WrittenUnit → List Refusal
unit_expansion_rows u = expansion_rows_from (functions_of u) u.statements

unfoldable pub expansion_rows_opened : Unit {0}
unfolding most_nodes total any_past node_over nodes_of_function expanded_by layer_nodes nodes_of sized_from functions_of expansion_rows_from unit_expansion_rows
expansion_rows_opened = tt
