use Rattle.named_main_laws.proofs.ByteStrings.{main_files_are_of_bytes}
use Rattle.named_main_laws.proofs.strings.main_files_are_of_bytes.Goals as goal

pub returns : goal.returns
returns c = main_files_are_of_bytes
