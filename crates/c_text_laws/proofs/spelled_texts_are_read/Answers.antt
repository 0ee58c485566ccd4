use Rattle.c_text_laws.proofs.PrintedTexts.{spelled_files_are_read}
use Rattle.c_text_laws.proofs.spelled_texts_are_read.Goals as goal

pub returns : goal.returns
returns c = spelled_files_are_read
