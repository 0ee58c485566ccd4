use Rattle.plain_units.proofs.ExampleRows.{examples_are_told}
use Rattle.plain_units.proofs.units.examples_are_told.Goals as goal

pub returns : goal.returns
returns c = examples_are_told
