use Rattle.loop_ranges.proofs.CrossingLemmas.{begin_ranges}
use Rattle.loop_ranges.proofs.crossing.no_ranges.Goals as goal

pub returns : goal.returns
returns c = begin_ranges _ c.new.ensures c.new-2.ensures.items
