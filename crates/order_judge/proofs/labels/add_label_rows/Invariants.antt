use Rattle.std.proofs.Common.{◌≡◌, ◌++◌, [], List, drop}
use Rattle.f_tree.specs.declared.statements.Stmt.{Stmt}
use Rattle.declaration_rows.specs.UnitRows.{labels_rows}
use Rattle.order_judge.specs.LabelSteps.{AreLabels}
use Rattle.order_judge.proofs.labels.add_label_rows.Given as goal

abbrev pub invariant-loop-statement : goal.invariant-loop-statement
invariant-loop-statement l = record {
  before : List Stmt;
  seen : AreLabels l.seen before;
  rows : l.initial.found.items ++ labels_rows [] l.statements ≡ l.found.items ++ labels_rows before (drop l.statement-index l.statements);
}
