use Rattle.emitted_procedures.proofs.MainUnits.{mains_are_units}
use Rattle.emitted_procedures.proofs.procedures.mains_are_units.Goals as goal

pub returns : goal.returns
returns c = mains_are_units
