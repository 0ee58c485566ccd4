use Rattle.unit_file_laws.proofs.Known.{unit_files_are_known}
use Rattle.unit_file_laws.proofs.files.unit_files_are_known.Goals as goal

pub returns : goal.returns
returns c = unit_files_are_known
