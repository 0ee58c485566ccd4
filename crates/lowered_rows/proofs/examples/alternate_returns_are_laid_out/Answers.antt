use Rattle.lowered_rows.proofs.ExampleLemmas.{choice_is_lowered, choice_is_laid_out}
use Rattle.lowered_rows.proofs.examples.alternate_returns_are_laid_out.Goals as goal

pub returns : goal.returns
returns c = record { lowered = choice_is_lowered; laid = choice_is_laid_out }
