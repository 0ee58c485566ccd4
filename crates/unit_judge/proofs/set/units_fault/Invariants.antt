use Rattle.std.proofs.Common.{◌≡◌, drop}
use Rattle.name_facts.specs.declaration_rows.SetRows.{units_rows}
use Rattle.name_facts.specs.declaration_rows.Verdicts.{first_of}
use Rattle.refusal_order.specs.Earliest.{earliest}
use Rattle.unit_judge.proofs.set.units_fault.Given as goal

abbrev pub invariant-loop-unit : goal.invariant-loop-unit
invariant-loop-unit l = first_of (units_rows l.options l.units) ≡ earliest l.first (first_of (units_rows l.options (drop l.unit-index l.units)))
