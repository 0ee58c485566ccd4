use Rattle.emitted_procedures.proofs.Simulated.{units_are_simulated}
use Rattle.emitted_procedures.proofs.procedures.units_are_simulated.Goals as goal

pub returns : goal.returns
returns c = units_are_simulated
