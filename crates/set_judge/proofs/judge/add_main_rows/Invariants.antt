use Rattle.std.proofs.Common.{◌≡◌, ◌++◌, drop}
use Rattle.declaration_rows.specs.GlobalRows.{main_rows}
use Rattle.set_judge.specs.GlobalSteps.{main_found}
use Rattle.set_judge.proofs.judge.add_main_rows.Given as goal

abbrev pub invariant-loop-unit : goal.invariant-loop-unit
invariant-loop-unit l = record {
  rows : l.initial.found.items ++ main_rows l.before l.units ≡ l.found.items ++ main_rows l.main (drop l.unit-index l.units);
  stood : main_found l.before l.units ≡ main_found l.main (drop l.unit-index l.units);
}
