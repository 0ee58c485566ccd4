use Rattle.main_file_texts.proofs.Files.{main_files_are_well_formed}
use Rattle.main_file_texts.proofs.texts.main_files_are_well_formed.Goals as goal

pub returns : goal.returns
returns c = main_files_are_well_formed
