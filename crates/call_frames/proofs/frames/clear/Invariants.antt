use Rattle.std.proofs.Common.{◌≡◌}
use Rattle.call_frames.proofs.FrameLists.{cleared_from}
use Rattle.call_frames.proofs.frames.clear.Given as goal

abbrev pub invariant-loop-number : goal.invariant-loop-number
invariant-loop-number l = l.run ≡ cleared_from l.frame l.number l.initial.run
