use Rattle.std.proofs.Common.{◌≡◌, ◌++◌, [], take, drop}
use Rattle.call_shapes.specs.Disagreements.{unit_findings}
use Rattle.call_check.specs.KnownUnits.{AreKnown}
use Rattle.call_check.proofs.findings.add_statements.Given as goal

abbrev pub invariant-loop-index : goal.invariant-loop-index
invariant-loop-index l = record {
  known : AreKnown l.unit l.known;
  rest : l.initial.findings.items ++ unit_findings l.counterparts.procedures.now l.counterparts.lines.now l.unit [] l.statements
      ≡ l.findings.items ++ unit_findings l.counterparts.procedures.now l.counterparts.lines.now l.unit (take l.index l.statements) (drop l.index l.statements);
}
