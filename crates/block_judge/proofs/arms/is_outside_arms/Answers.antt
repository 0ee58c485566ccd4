use Rattle.block_judge.proofs.ArmLemmas.{outside_arms}
use Rattle.block_judge.proofs.arms.is_outside_arms.Goals as goal

pub returns : goal.returns
returns c = λ ss known. outside_arms ss c.args.arms.now c.args.place c.place_at.result _ c.is_none.result known c.requires c.place_at.ensures c.is_none.ensures
