use Rattle.c_text_laws.proofs.PrintedTexts.{printed_files_are_read}
use Rattle.c_text_laws.proofs.printed_texts_are_read_back.Goals as goal

pub returns : goal.returns
returns c = printed_files_are_read
