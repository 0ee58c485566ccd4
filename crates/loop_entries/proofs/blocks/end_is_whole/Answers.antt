use Rattle.loop_entries.proofs.BlockLemmas.{end_is}
use Rattle.loop_entries.proofs.blocks.end_is_whole.Goals as goal

pub returns : goal.returns
returns c = λ p are. end_is p c.args.ranges.now c.args.place c.none_ends_at.result are c.none_ends_at.ensures
