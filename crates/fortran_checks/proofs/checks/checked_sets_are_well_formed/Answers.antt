use Rattle.fortran_checks.proofs.CheckLemmas.{checked_well}
use Rattle.fortran_checks.proofs.FoundLemmas.{well_found}
use Rattle.fortran_checks.proofs.checks.checked_sets_are_well_formed.Goals as goal

pub returns-clause-checked : goal.returns-clause-checked
returns-clause-checked c = checked_well

pub returns-clause-found : goal.returns-clause-found
returns-clause-found c = well_found
