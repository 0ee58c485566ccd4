use Rattle.std.proofs.Common.{◌≡◌, ◌++◌, drop}
use Rattle.name_table.specs.Named.{names_in, IsNameSet}
use Rattle.unit_names.specs.Undeclared.{statements_rows}
use Rattle.unit_names.proofs.name_rows.note_statements.Given as goal

abbrev pub invariant-loop-statement : goal.invariant-loop-statement
invariant-loop-statement l = record {
  is_set : IsNameSet l.seen;
  rows : l.initial.found.items ++ statements_rows l.unit (names_in l.initial.seen) l.unit.statements
      ≡ l.found.items ++ statements_rows l.unit (names_in l.seen) (drop l.statement-index l.unit.statements);
}
