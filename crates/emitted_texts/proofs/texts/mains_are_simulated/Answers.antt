use Rattle.emitted_texts.proofs.Simulated.{mains_are_simulated}
use Rattle.emitted_texts.proofs.texts.mains_are_simulated.Goals as goal

pub returns : goal.returns
returns c = mains_are_simulated
