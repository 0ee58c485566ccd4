use Rattle.main_programs.proofs.Emission.{mains_are_emitted}
use Rattle.main_programs.proofs.programs.mains_are_emitted.Goals as goal

pub returns : goal.returns
returns c = mains_are_emitted
