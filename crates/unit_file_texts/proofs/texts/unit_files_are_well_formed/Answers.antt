use Rattle.unit_file_texts.proofs.UnitTexts.{unit_files_are_well_formed}
use Rattle.unit_file_texts.proofs.texts.unit_files_are_well_formed.Goals as goal

pub returns : goal.returns
returns c = unit_files_are_well_formed
