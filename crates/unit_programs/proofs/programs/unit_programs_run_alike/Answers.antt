use Rattle.unit_programs.proofs.Runs.{unit_programs_run_alike}
use Rattle.unit_programs.proofs.programs.unit_programs_run_alike.Goals as goal

pub returns : goal.returns
returns c = unit_programs_run_alike
