use Rattle.loop_ranges.specs.FirstLoops.{first_at}
use Rattle.loop_ranges.proofs.firsts.FirstLoops.put.Goals as goal

pub returns-in-Ok : goal.returns-in-Ok
unfolding first_at
returns-in-Ok c = λ k. c.in-Ok.ensures.updates.0 k
