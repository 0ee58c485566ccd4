use Rattle.std.proofs.Common.{rules}
use Rattle.host_lines.proofs.LineLaws.{byte-lost}
use Rattle.host_lines.proofs.reading.read_line.Goals as goal

pub returns-in_err-push-in-Some-clause-err : goal.returns-in_err-push-in-Some-clause-err
returns-in_err-push-in-Some-clause-err g c =
    byte-lost _ _ _ _ _ c.in-Some.byte c.loop.invariant.0 c.loop.invariant.1 (search rules) (search rules)
