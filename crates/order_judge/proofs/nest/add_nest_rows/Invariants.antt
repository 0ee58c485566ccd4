use Rattle.std.proofs.Common.{◌≡◌, ◌++◌, [], List, drop}
use Rattle.f_tree.specs.declared.statements.Stmt.{Stmt}
use Rattle.declaration_rows.specs.UnitRows.{nest_rows}
use Rattle.order_judge.specs.NestSteps.{AreOpen}
use Rattle.order_judge.proofs.nest.add_nest_rows.Given as goal

abbrev pub invariant-loop-statement : goal.invariant-loop-statement
invariant-loop-statement l = record {
  around : List Stmt;
  are_open : AreOpen l.open_blocks.items around;
  rows : l.initial.found.items ++ nest_rows [] l.statements ≡ l.found.items ++ nest_rows around (drop l.statement-index l.statements);
}
