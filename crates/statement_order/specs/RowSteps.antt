-- The rows of the order of one statement.
use Rattle.std.specs.Prelude.{not, List, ◌++◌}
use Rattle.f_tree.specs.Values.{Bytes}
use Rattle.f_tree.specs.declared.refusals.Kind.TheVariants.{StatementOutOfOrder}
use Rattle.f_tree.specs.declared.refusals.Refusal.{Refusal}
use Rattle.f_tree.specs.declared.statements.UnitKind.{UnitKind}
use Rattle.f_tree.specs.declared.statements.Stmt.{Stmt}
use Rattle.declaration_rows.specs.Judgement.{unless}
use Rattle.declaration_rows.specs.NameRows.{stood}
use Rattle.declaration_rows.specs.OrderRows.{Stage, order_rows, rank_of, is_second_implicit, constant_order_rows, kind_rows}

unfoldable pub rows_at : UnitKind → List Bytes → Stage → List Stmt → Stmt → List Refusal
rows_at kind arrays stage before s =
    stood s (order_rows stage (rank_of arrays s.body) ++
    (unless (not (is_second_implicit before s.body)) StatementOutOfOrder ++ (constant_order_rows arrays before s.body ++ kind_rows kind s.body)))
