use Rattle.std.proofs.Common.{arith}
use Rattle.call_frames.proofs.FrameLists.{none-cleared, one-cleared}
use Rattle.call_frames.proofs.frames.clear.Goals as goal

pub loop-number-init : goal.loop-number-init
loop-number-init c = none-cleared c.args.frame c.args.run.now

pub loop-number-preserved : goal.loop-number-preserved
loop-number-preserved c = let next = one-cleared c.args.frame c.loop-number.number c.args.run.now (omega arith) in cc
