use Rattle.c_sources.proofs.TextLemmas.{front_length}
use Rattle.c_sources.proofs.reading.cut_text.Goals as goal

pub slice_bounds-from_slice-end : goal.slice_bounds-from_slice-end
slice_bounds-from_slice-end c = front_length 67108864 c.args.text.now c.requires
