use Rattle.unit_file_texts.proofs.UnitStrings.{unit_files_are_of_bytes, unit_files_are_spelled}
use Rattle.unit_file_texts.proofs.texts.unit_files_are_spelled.Goals as goal

pub returns : goal.returns
returns c = record { bytes = unit_files_are_of_bytes; spelled = unit_files_are_spelled }
