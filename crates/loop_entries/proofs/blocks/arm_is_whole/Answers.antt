use Rattle.loop_entries.proofs.BlockLemmas.{arm_then, arm_else}
use Rattle.loop_entries.proofs.blocks.arm_is_whole.Goals as goal

pub returns-then-none_ends_at : goal.returns-then-none_ends_at
returns-then-none_ends_at c = λ p are is.
    arm_then p c.args.ranges.now c.args.place c.args.next c.none_ends_at.result c.are_alike.result are is c.none_ends_at.ensures c.if-none_ends_at.true (c.are_alike.ensures p are)

pub returns-else-none_ends_at : goal.returns-else-none_ends_at
returns-else-none_ends_at c = λ p are is. arm_else p c.args.ranges.now c.args.place c.none_ends_at.result are c.none_ends_at.ensures c.if-none_ends_at.false
