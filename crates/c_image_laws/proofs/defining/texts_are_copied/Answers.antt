use Rattle.c_image_laws.proofs.CopiedTexts.{pieces_are_read, texts_are_copied, texts_are_joined}
use Rattle.c_image_laws.proofs.defining.texts_are_copied.Goals as goal

pub returns : goal.returns
returns c = record { pieces = pieces_are_read; copied = texts_are_copied; joined = texts_are_joined }
