use Rattle.c_emit_laws.proofs.ExampleLaws.{example_known, sum_means}
use Rattle.c_emit_laws.proofs.examples.example_is_known.Goals as goal

pub returns : goal.returns
returns c = record { known = example_known; sum = sum_means }
