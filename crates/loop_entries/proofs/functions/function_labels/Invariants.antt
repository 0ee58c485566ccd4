use Rattle.std.proofs.Common.{◌≡◌, [], List, drop}
use Rattle.f_tree.specs.Attributes.{Expansion, from_all, arrays_of, definitions_in, expansions_from}
use Rattle.name_facts.specs.declaration_rows.NameRows.{own_attributes}
use Rattle.loop_entries.specs.PassedLabels.{AreFunctionLabels}
use Rattle.loop_entries.proofs.functions.function_labels.Given as goal

abbrev pub invariant-loop-statement : goal.invariant-loop-statement
invariant-loop-statement l = record {
  before : List Expansion;
  told : AreFunctionLabels l.unit before l.functions;
  rest : expansions_from (own_attributes l.unit) [] (from_all (definitions_in (arrays_of l.unit)) l.statement-items)
      ≡ expansions_from (own_attributes l.unit) before (from_all (definitions_in (arrays_of l.unit)) (drop l.statement-index l.statement-items));
}
