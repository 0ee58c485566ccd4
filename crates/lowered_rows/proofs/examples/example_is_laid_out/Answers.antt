use Rattle.lowered_rows.proofs.ExampleLemmas.{sum_is_lowered, sum_is_laid_out}
use Rattle.lowered_rows.proofs.examples.example_is_laid_out.Goals as goal

pub returns : goal.returns
returns c = record { lowered = sum_is_lowered; laid = sum_is_laid_out }
