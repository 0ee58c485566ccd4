use Rattle.std.proofs.Common.{◌≡◌, [], List, drop}
use Rattle.f_tree.specs.Attributes.{from_all, definitions_in}
use Rattle.declaration_rows.specs.ExpansionRows.{Sized, sized_from}
use Rattle.name_table.specs.Named.{names_in}
use Rattle.expansion_judge.specs.NodesCounted.{AreSized}
use Rattle.expansion_judge.proofs.functions.function_table.Given as goal

abbrev pub invariant-loop-statement : goal.invariant-loop-statement
invariant-loop-statement l = record {
  before : List Sized;
  are_sized : AreSized l.functions before;
  rest : sized_from [] (from_all (definitions_in (names_in l.arrays)) l.statements) ≡ sized_from before (from_all (definitions_in (names_in l.arrays)) (drop l.statement-index l.statements));
}
