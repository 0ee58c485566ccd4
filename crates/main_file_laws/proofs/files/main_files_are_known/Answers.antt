use Rattle.main_file_laws.proofs.Known.{main_files_are_known}
use Rattle.main_file_laws.proofs.files.main_files_are_known.Goals as goal

pub returns : goal.returns
returns c = main_files_are_known
