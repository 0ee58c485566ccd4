use Rattle.std.proofs.Common.{rules}
use Rattle.host_lines.proofs.LineLaws.{first-line}
use Rattle.host_lines.proofs.reading.take_line.Goals as goal

pub returns-then-branch : goal.returns-then-branch
returns-then-branch g c =
    first-line _ _ _ _ _ _ c.loop.invariant.0 c.loop.invariant.1 c.in_ok-count.ensures.bytes.0 (search rules)
