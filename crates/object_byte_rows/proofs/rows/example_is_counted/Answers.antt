use Rattle.object_byte_rows.proofs.ExampleRows.{example_is_counted}
use Rattle.object_byte_rows.proofs.rows.example_is_counted.Goals as goal

pub returns : goal.returns
returns c = example_is_counted
