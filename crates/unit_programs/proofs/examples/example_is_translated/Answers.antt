use Rattle.unit_programs.proofs.ExampleLaws.{example_is_translated}
use Rattle.unit_programs.proofs.examples.example_is_translated.Goals as goal

pub returns : goal.returns
returns c = example_is_translated
