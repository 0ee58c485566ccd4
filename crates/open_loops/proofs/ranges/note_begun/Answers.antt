use Rattle.std.proofs.Common.{◌++◌, ap, sym}
use Rattle.open_loops.specs.OpenRanges.{begun_at, innermost_first}
use Rattle.open_loops.proofs.ranges.note_begun.Goals as goal

pub returns-in-None-clause-noted : goal.returns-in-None-clause-noted
unfolding begun_at
returns-in-None-clause-noted c = ap (λ end. begun_at c.args.place end ++ innermost_first c.args.loops.now.items) (sym c.in-None.is)
