use Rattle.std.proofs.Common.{take}
use Rattle.open_loops.specs.OpenRanges.{innermost_first}
use Rattle.open_loops.specs.KeptTemporaries.{IsFreeAmong}
use Rattle.open_loops.proofs.temporaries.free_among.Given as goal

abbrev pub invariant-loop-range : goal.invariant-loop-range
invariant-loop-range l = IsFreeAmong l.table l.statements (innermost_first (take l.range-index l.loops)) l.free
