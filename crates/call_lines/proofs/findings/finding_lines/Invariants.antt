use Rattle.std.proofs.Common.{◌≡◌, take}
use Rattle.call_lines.specs.FindingLines.{finding_lines}
use Rattle.call_lines.proofs.findings.finding_lines.Given as goal

abbrev pub invariant-loop-finding : goal.invariant-loop-finding
invariant-loop-finding l = l.out.items ≡ finding_lines l.names (take l.finding-index l.findings)
