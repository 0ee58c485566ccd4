use Rattle.unit_programs.proofs.KeptExampleLaws.{kept_example_is_translated}
use Rattle.unit_programs.proofs.examples.kept_example_is_translated.Goals as goal

pub returns : goal.returns
returns c = kept_example_is_translated
