use Rattle.main_file_texts.proofs.SpelledStatements.{statements_are_spelled}
use Rattle.main_file_texts.proofs.texts.statements_are_spelled.Goals as goal

pub returns : goal.returns
returns c = statements_are_spelled
