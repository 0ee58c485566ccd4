use Rattle.translated_file_laws.proofs.HasOne.{translated_sets_have_files}
use Rattle.translated_file_laws.proofs.translations.translated_sets_have_files.Goals as goal

pub returns : goal.returns
returns c = translated_sets_have_files
