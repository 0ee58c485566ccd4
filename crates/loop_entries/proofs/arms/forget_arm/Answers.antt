use Rattle.std.proofs.Common.{◌-◌, get_or, arith}
use Rattle.loop_entries.proofs.ArmLemmas.{arms_popped}
use Rattle.loop_entries.proofs.arms.forget_arm.Goals as goal

pub returns : goal.returns
returns c =
    let arms = c.args.arms.now in
    arms_popped arms.items c.pop.new.self.items arms.len (λ d. get_or arms.items (arms.len - 1) d) c.pop.result c.pop.ensures.items (omega (arith, arms.ok.0)) c.pop.ensures.value
