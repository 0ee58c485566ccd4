use Rattle.std.proofs.Common.{◌≡◌, ◌++◌, drop}
use Rattle.declaration_rows.specs.NameRows.{known_in}
use Rattle.expression_judge.specs.SeenNames.{AreSeen}
use Rattle.reference_judge.specs.ReferencesSeen.{located, located_from}
use Rattle.reference_judge.proofs.statements.add_statements.Given as goal

abbrev pub invariant-loop-statement : goal.invariant-loop-statement
invariant-loop-statement l = record {
  names : AreSeen (known_in l.unit) l.names;
  rest : located l.initial.references.items ++ located_from l.unit l.statements ≡ located l.references.items ++ located_from l.unit (drop l.statement-index l.statements);
}
