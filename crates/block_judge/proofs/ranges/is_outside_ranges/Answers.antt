use Rattle.block_judge.proofs.RangeChains.{outside_ranges}
use Rattle.block_judge.proofs.ranges.is_outside_ranges.Goals as goal

pub returns : goal.returns
returns c =
    outside_ranges c.args.ends.now c.args.around.now c.args.place c.place_at.result _ c.is_none.result c.requires.place c.requires.count c.requires.around c.place_at.ensures c.is_none.ensures
