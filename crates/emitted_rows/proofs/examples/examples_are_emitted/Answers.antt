use Rattle.emitted_rows.proofs.ExampleLaws.{main_is_emitted, function_is_emitted, other_is_emitted}
use Rattle.emitted_rows.proofs.examples.examples_are_emitted.Goals as goal

pub returns : goal.returns
returns c = record { main = main_is_emitted; function = function_is_emitted; other = other_is_emitted }
