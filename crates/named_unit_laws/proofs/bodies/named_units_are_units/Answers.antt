use Rattle.named_unit_laws.proofs.UnitBodiesMade.{units_are_made}
use Rattle.named_unit_laws.proofs.bodies.named_units_are_units.Goals as goal

pub returns : goal.returns
returns c = units_are_made
