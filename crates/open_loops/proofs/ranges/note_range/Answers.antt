use Rattle.std.proofs.Common.{ap, ◌∙◌}
use Rattle.open_loops.specs.OpenRanges.{innermost_first}
use Rattle.open_loops.proofs.WalkLemmas.{begun_open, begun_closed}
use Rattle.open_loops.proofs.ranges.note_range.Goals as goal

pub returns-then-last-first-clause-noted : goal.returns-then-last-first-clause-noted
returns-then-last-first-clause-noted c = begun_closed c.args.first c.args.last c.args.loops.now.items c.if-last-first.true

pub returns-clause-noted : goal.returns-clause-noted
returns-clause-noted c = ap innermost_first c.in_ok-push.ensures.items ∙ begun_open c.args.first c.args.last c.args.loops.now.items c.if-last-first.false
