use Rattle.lowered_rows.proofs.ExampleLemmas.{list_is_lowered, list_is_laid_out}
use Rattle.lowered_rows.proofs.examples.transfers_are_laid_out.Goals as goal

pub returns : goal.returns
returns c = record { lowered = list_is_lowered; laid = list_is_laid_out }
