use Rattle.lowered_rows.proofs.ExampleLemmas.{loop_is_lowered, block_is_lowered}
use Rattle.lowered_rows.proofs.examples.examples_are_lowered.Goals as goal

pub returns : goal.returns
returns c = record { loop_ = loop_is_lowered; block = block_is_lowered }
