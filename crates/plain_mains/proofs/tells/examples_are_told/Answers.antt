use Rattle.plain_mains.proofs.ExampleRows.{examples_are_told}
use Rattle.plain_mains.proofs.tells.examples_are_told.Goals as goal

pub returns : goal.returns
returns c = examples_are_told
