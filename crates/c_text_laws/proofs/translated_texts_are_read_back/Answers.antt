use Rattle.c_text_laws.proofs.PrintedTexts.{faithful_texts_are_read}
use Rattle.c_text_laws.proofs.translated_texts_are_read_back.Goals as goal

pub returns : goal.returns
returns c = faithful_texts_are_read
