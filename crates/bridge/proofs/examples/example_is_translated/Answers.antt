use Rattle.bridge.proofs.ExampleStands.{example_lowered, example_translated}
use Rattle.bridge.proofs.examples.example_is_translated.Goals as goal

pub returns : goal.returns
returns c = record { lowered = example_lowered; translated = example_translated }
