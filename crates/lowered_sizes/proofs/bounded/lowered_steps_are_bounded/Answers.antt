use Rattle.lowered_sizes.proofs.UnitSteps.{each_text_is_bounded}
use Rattle.lowered_sizes.proofs.bounded.lowered_steps_are_bounded.Goals as goal

pub returns : goal.returns
returns c = each_text_is_bounded
