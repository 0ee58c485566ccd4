use Rattle.kept_loops.proofs.ExampleRows.{example_is_counted}
use Rattle.kept_loops.proofs.kept.example_is_counted.Goals as goal

pub returns : goal.returns
returns c = example_is_counted
