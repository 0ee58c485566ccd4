use Rattle.std.proofs.Common.{◌≡◌, ◌++◌, drop}
use Rattle.declaration_rows.specs.GlobalRows.{globals_of}
use Rattle.set_judge.specs.GlobalSteps.{globals_in}
use Rattle.set_judge.proofs.globals.add_units_names.Given as goal

abbrev pub invariant-loop-unit : goal.invariant-loop-unit
invariant-loop-unit l = globals_in l.initial.names.items ++ globals_of l.units ≡ globals_in l.names.items ++ globals_of (drop l.unit-index l.units)
