use Rattle.emitted_rows.proofs.KeptExampleLaws.{array_is_emitted}
use Rattle.emitted_rows.proofs.examples.array_is_emitted.Goals as goal

pub returns : goal.returns
returns c = array_is_emitted
