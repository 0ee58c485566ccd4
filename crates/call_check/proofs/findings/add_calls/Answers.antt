use Rattle.std.proofs.Common.{arith}
use Rattle.statement_parts.proofs.found_rows.Walks.{each_more, each_end}
use Rattle.call_shapes.specs.declared.shapes.NamedShape.{NamedShape}
use Rattle.call_shapes.specs.Disagreements.{reason_of, found_at, call_findings}
use Rattle.call_check.proofs.FindingLaws.{calls_step, calls_end}
use Rattle.call_check.proofs.findings.add_calls.Goals as goal

pub loop-call-preserved : goal.loop-call-preserved
loop-call-preserved c =
    let ps = c.args.counterparts.procedures.now in
    let ls = c.args.counterparts.lines.now in
    let s = c.args.statement.now in
    each_more (call_findings ps ls s) (λ (call : NamedShape). found_at s call.name (reason_of ps ls call)) (calls_step ps ls s) c.args.calls.now c.loop-call.call-index c.call-item.result
    _ _ _ _ c.loop-call-test.true c.call-item.is c.loop-call.invariant c.in_ok-add_call.ensures

pub returns : goal.returns
returns c =
    let ps = c.args.counterparts.procedures.now in
    let ls = c.args.counterparts.lines.now in
    let s = c.args.statement.now in
    each_end (call_findings ps ls s) (λ (call : NamedShape). found_at s call.name (reason_of ps ls call)) (calls_end ps ls s) c.args.calls.now c.loop-call.call-index _ _ (omega arith)
    c.loop-call.invariant
