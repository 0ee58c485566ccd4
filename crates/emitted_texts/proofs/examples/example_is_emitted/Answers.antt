use Rattle.emitted_texts.proofs.ExampleLaws.{example_is_emitted}
use Rattle.emitted_texts.proofs.examples.example_is_emitted.Goals as goal

pub returns : goal.returns
returns c = example_is_emitted
