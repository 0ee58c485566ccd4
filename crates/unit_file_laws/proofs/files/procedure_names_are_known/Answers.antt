use Rattle.unit_file_laws.proofs.CallNames.{procedure_names_are_known}
use Rattle.unit_file_laws.proofs.files.procedure_names_are_known.Goals as goal

pub returns : goal.returns
returns c = procedure_names_are_known
