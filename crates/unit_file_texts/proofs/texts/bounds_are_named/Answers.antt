use Rattle.unit_file_texts.proofs.BoundWords.{bounds_are_named}
use Rattle.unit_file_texts.proofs.texts.bounds_are_named.Goals as goal

pub returns : goal.returns
returns c = bounds_are_named
