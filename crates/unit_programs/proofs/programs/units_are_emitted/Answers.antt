use Rattle.unit_programs.proofs.Emission.{units_are_emitted}
use Rattle.unit_programs.proofs.programs.units_are_emitted.Goals as goal

pub returns : goal.returns
returns c = units_are_emitted
