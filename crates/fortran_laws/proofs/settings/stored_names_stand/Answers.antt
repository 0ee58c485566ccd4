use Rattle.fortran_laws.proofs.HomeLemmas.{each_stored_name}
use Rattle.fortran_laws.proofs.settings.stored_names_stand.Goals as goal

pub returns : goal.returns
returns c = record { stand = each_stored_name }
