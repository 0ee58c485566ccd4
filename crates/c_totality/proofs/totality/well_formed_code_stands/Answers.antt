use Rattle.c_totality.proofs.ProgramSound.{each-function-stands, each-main-begins}
use Rattle.c_totality.proofs.RunSound.{next-sound}
use Rattle.c_totality.proofs.totality.well_formed_code_stands.Goals as goal

pub returns-clause-functions : goal.returns-clause-functions
returns-clause-functions c = each-function-stands

pub returns-clause-begins : goal.returns-clause-begins
returns-clause-begins c = each-main-begins

pub returns-clause-steps : goal.returns-clause-steps
returns-clause-steps c = next-sound
