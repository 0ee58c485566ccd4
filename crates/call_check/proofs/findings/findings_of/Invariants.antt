use Rattle.std.proofs.Common.{◌≡◌, ◌++◌, drop}
use Rattle.call_shapes.specs.declaration_rows.GlobalRows.{all_units}
use Rattle.call_shapes.specs.Disagreements.{units_findings}
use Rattle.call_check.proofs.findings.findings_of.Given as goal

abbrev pub invariant-loop-file : goal.invariant-loop-file
invariant-loop-file l =
    units_findings l.counterparts.procedures.now l.counterparts.lines.now (all_units l.files)
    ≡ l.findings.items ++ units_findings l.counterparts.procedures.now l.counterparts.lines.now (all_units (drop l.file-index l.files))
