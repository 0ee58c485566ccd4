use Rattle.c_totality.proofs.ProgramSound.{runs-meant}
use Rattle.c_totality.proofs.totality.no_run_is_without_meaning.Goals as goal

pub returns : goal.returns
returns c = record { runs = runs-meant }
