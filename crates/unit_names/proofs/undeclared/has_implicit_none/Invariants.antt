use Rattle.std.proofs.Common.{◌≡◌, drop}
use Rattle.std.specs.List.{list_any}
use Rattle.f_tree.specs.declared.statements.Stmt.{Stmt}
use Rattle.declaration_rows.specs.OrderRows.{is_implicit_none}
use Rattle.unit_names.proofs.undeclared.has_implicit_none.Given as goal

abbrev pub invariant-loop-statement : goal.invariant-loop-statement
invariant-loop-statement l = list_any (λ (s : Stmt). is_implicit_none s.body) l.statements ≡ list_any (λ (s : Stmt). is_implicit_none s.body) (drop l.statement-index l.statements)
