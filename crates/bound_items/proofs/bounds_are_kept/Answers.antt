use Rattle.bound_items.proofs.KeptItems.{bounds_are_kept}
use Rattle.bound_items.proofs.bounds_are_kept.Goals as goal

pub returns : goal.returns
returns c = bounds_are_kept
