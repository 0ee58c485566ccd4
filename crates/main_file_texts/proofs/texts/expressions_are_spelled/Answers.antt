use Rattle.main_file_texts.proofs.SpelledTerms.{terms_are_spelled}
use Rattle.main_file_texts.proofs.texts.expressions_are_spelled.Goals as goal

pub returns : goal.returns
returns c = terms_are_spelled
