use Rattle.plain_units.proofs.PlainParts.{plain_units_are_told}
use Rattle.plain_units.proofs.units.plain_units_are_told.Goals as goal

pub returns : goal.returns
returns c = plain_units_are_told
