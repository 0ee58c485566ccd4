use Rattle.std.proofs.Common.{take}
use Rattle.name_table.specs.Named.{names_in}
use Rattle.translator.specs.LoweredFiles.{AddsUnits}
use Rattle.translator.proofs.unit.add_units.Given as goal

abbrev pub invariant-loop-unit : goal.invariant-loop-unit
invariant-loop-unit l = AddsUnits l.fn.options (names_in l.fn.procedures) (take l.unit-index l.units) l.initial.found.items l.found.items l.refusal
