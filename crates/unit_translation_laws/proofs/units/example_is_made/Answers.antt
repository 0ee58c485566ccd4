use Rattle.unit_translation_laws.proofs.ExampleHolds.{example_constants, example_made, example_made_apart, example_plain}
use Rattle.unit_translation_laws.proofs.units.example_is_made.Goals as goal

pub returns : goal.returns
returns c = record { constants = example_constants; made = example_made; made_apart = example_made_apart; plain = example_plain }
