use Rattle.std.proofs.Common.{sym, ap, ◌∙◌}
use Rattle.block_judge.specs.Arms.{arm_around}
use Rattle.block_judge.proofs.arms.arm_around.Goals as goal

pub returns-in-Some : goal.returns-in-Some
unfolding arm_around
returns-in-Some c = c.place_at.ensures ∙ sym (ap (arm_around c.args.arms.now) c.in-Some.is)

pub returns-in-None : goal.returns-in-None
unfolding arm_around
returns-in-None c = sym (ap (arm_around c.args.arms.now) c.in-None.is)
