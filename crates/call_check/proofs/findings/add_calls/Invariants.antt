use Rattle.std.proofs.Common.{◌≡◌, ◌++◌, drop}
use Rattle.call_shapes.specs.Disagreements.{call_findings}
use Rattle.call_check.proofs.findings.add_calls.Given as goal

abbrev pub invariant-loop-call : goal.invariant-loop-call
invariant-loop-call l =
    l.initial.findings.items ++ call_findings l.counterparts.procedures.now l.counterparts.lines.now l.statement l.calls
    ≡ l.findings.items ++ call_findings l.counterparts.procedures.now l.counterparts.lines.now l.statement (drop l.call-index l.calls)
