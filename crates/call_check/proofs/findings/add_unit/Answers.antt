use Rattle.std.proofs.Common.{[], ap}
use Rattle.statement_parts.proofs.found_rows.Walks.{put_as}
use Rattle.call_shapes.specs.Disagreements.{unit_findings}
use Rattle.call_check.proofs.findings.add_unit.Goals as goal

pub returns : goal.returns
returns c =
    let ps = c.args.counterparts.procedures.now in
    let ls = c.args.counterparts.lines.now in
    put_as c.add_statements.result _ _ (unit_findings ps ls c.args.unit.now [] c.as_slice-statements.result.now) _
    (ap (unit_findings ps ls c.args.unit.now []) c.as_slice-statements.ensures) c.add_statements.ensures
