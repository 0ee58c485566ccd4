use Rattle.unit_item_laws.proofs.UnitStepsAgree.{unit_emissions_agree}
use Rattle.unit_item_laws.proofs.units.unit_emissions_agree.Goals as goal

pub returns : goal.returns
returns c = unit_emissions_agree
