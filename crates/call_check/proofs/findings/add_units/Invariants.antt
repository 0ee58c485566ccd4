use Rattle.std.proofs.Common.{◌≡◌, ◌++◌, drop}
use Rattle.call_shapes.specs.Disagreements.{units_findings}
use Rattle.call_check.proofs.findings.add_units.Given as goal

abbrev pub invariant-loop-unit : goal.invariant-loop-unit
invariant-loop-unit l =
    l.initial.findings.items ++ units_findings l.counterparts.procedures.now l.counterparts.lines.now l.units
    ≡ l.findings.items ++ units_findings l.counterparts.procedures.now l.counterparts.lines.now (drop l.unit-index l.units)
