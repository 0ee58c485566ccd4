use Rattle.lowered_rows.proofs.ExampleLemmas.{detour_is_lowered, detour_is_laid_out}
use Rattle.lowered_rows.proofs.examples.assigned_labels_are_laid_out.Goals as goal

pub returns : goal.returns
returns c = record { lowered = detour_is_lowered; laid = detour_is_laid_out }
