use Rattle.main_translation_laws.proofs.ExampleHolds.{example_lowered, example_made, example_is_plain, example_is_short}
use Rattle.main_translation_laws.proofs.mains.example_is_made.Goals as goal

pub returns : goal.returns
returns c = record { plain = example_is_plain; lowered = example_lowered; short = example_is_short; made = example_made }
