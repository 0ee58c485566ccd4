use Rattle.main_programs.proofs.MainRuns.{main_programs_run_alike}
use Rattle.main_programs.proofs.programs.main_programs_run_alike.Goals as goal

pub returns : goal.returns
returns c = main_programs_run_alike
