use Rattle.std.proofs.Common.{◌≡◌, ◌++◌, [], List, drop}
use Rattle.f_tree.specs.declared.statements.Stmt.{Stmt}
use Rattle.f_tree.specs.Attributes.{arrays_of}
use Rattle.declaration_rows.specs.OrderRows.{AtImplicits, ordered_rows}
use Rattle.statement_order.specs.BeforeSteps.{AreBefore}
use Rattle.statement_order.specs.OrderSteps.{stage_in}
use Rattle.statement_order.proofs.order.add_order_rows.Given as goal

abbrev pub invariant-loop-statement : goal.invariant-loop-statement
invariant-loop-statement l = record {
  seen : List Stmt;
  known : AreBefore (arrays_of l.unit) l.before seen;
  rows : l.initial.found.items ++ ordered_rows l.unit AtImplicits [] l.unit.statements
      ≡ l.found.items ++ ordered_rows l.unit (stage_in l.stage) seen (drop l.statement-index l.unit.statements);
}
