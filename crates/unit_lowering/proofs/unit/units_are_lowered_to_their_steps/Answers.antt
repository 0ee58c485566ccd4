use Rattle.unit_lowering.proofs.UnitTexts.{to_their_steps}
use Rattle.unit_lowering.proofs.unit.units_are_lowered_to_their_steps.Goals as goal

pub returns : goal.returns
returns c = to_their_steps
