use Rattle.std.proofs.Common.{sym, ◌∙◌}
use Rattle.std.specs.List.{list_any}
use Rattle.statement_parts.proofs.found_rows.Walks.{put_as}
use Rattle.call_shapes.specs.Disagreements.{is_at, call_findings}
use Rattle.call_check.proofs.FindingLaws.{is_none, without_calls, once_more, the_first}
use Rattle.call_check.proofs.findings.add_unless_again.Goals as goal

pub returns-then-is_empty : goal.returns-then-is_empty
returns-then-is_empty c =
    let ps = c.args.counterparts.procedures.now in
    let ls = c.args.counterparts.lines.now in
    without_calls ps ls c.args.findings.now.items (list_any (is_at c.args.statement.now) c.args.before.now) c.args.statement.now c.args.calls.now
    (is_none c.is_empty.result c.args.calls.now c.is_empty.ensures c.if-is_empty.true)

pub returns-then-is_again : goal.returns-then-is_again
returns-then-is_again c =
    let ps = c.args.counterparts.procedures.now in
    let ls = c.args.counterparts.lines.now in
    once_more ps ls c.args.findings.now.items _ (call_findings ps ls c.args.statement.now c.args.calls.now) (sym c.is_again.ensures ∙ c.if-is_again.true)

pub returns : goal.returns
returns c =
    let ps = c.args.counterparts.procedures.now in
    let ls = c.args.counterparts.lines.now in
    put_as c.add_calls.result _ _ (call_findings ps ls c.args.statement.now c.args.calls.now) _
    (the_first ps ls _ (call_findings ps ls c.args.statement.now c.args.calls.now) (sym c.is_again.ensures ∙ c.if-is_again.false)) c.add_calls.ensures
