use Rattle.unit_item_laws.proofs.UnitStepsAgree.{unit_bounds_agree}
use Rattle.unit_item_laws.proofs.units.unit_bounds_agree.Goals as goal

pub returns : goal.returns
returns c = unit_bounds_agree
