use Rattle.std.proofs.Common.{[], ◌∙◌}
use Rattle.std.specs.Prelude.{if◌then◌else◌}
use Rattle.std.specs.List.{list_any}
use Rattle.statement_parts.proofs.found_rows.Walks.{put_as}
use Rattle.call_shapes.specs.Disagreements.{is_at, call_findings}
use Rattle.call_check.proofs.FindingLaws.{whole_statement}
use Rattle.reference_judge.proofs.BindingLaws.{held}
use Rattle.call_check.proofs.findings.add_statement.Goals as goal

pub returns-clause-findings : goal.returns-clause-findings
returns-clause-findings c =
    let ps = c.args.counterparts.procedures.now in
    let ls = c.args.counterparts.lines.now in
    put_as c.add_unless_again.result _ _
    (if list_any (is_at c.args.statement.now) c.args.before.now then [] else call_findings ps ls c.args.statement.now c.as_slice-listed.result.now) _
    (whole_statement ps ls c.args.unit.now c.args.before.now c.args.statement.now c.as_slice-listed.result.now (c.as_slice-listed.ensures.value ∙ c.in_ok-calls.ensures.calls))
    c.add_unless_again.ensures

pub returns-clause-known : goal.returns-clause-known
returns-clause-known c = held _ c.add_unless_again.result c.in_ok-calls.ensures.known
