use Rattle.lowering_laws.proofs.LocalLemmas.{simulates}
use Rattle.lowering_laws.proofs.statements.texts_simulate.Goals as goal

pub returns : goal.returns
returns c number u costs laid positive = simulates number u costs laid positive
