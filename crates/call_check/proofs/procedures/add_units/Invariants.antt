use Rattle.std.proofs.Common.{◌≡◌, ◌++◌, drop}
use Rattle.call_shapes.specs.ProcedureShapes.{procedures_of}
use Rattle.call_check.proofs.procedures.add_units.Given as goal

abbrev pub invariant-loop-unit : goal.invariant-loop-unit
invariant-loop-unit l = l.initial.shapes.items ++ procedures_of l.units ≡ l.shapes.items ++ procedures_of (drop l.unit-index l.units)
