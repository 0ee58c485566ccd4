use Rattle.agreeing_runs.proofs.RefusedLemmas.{refused_calls}
use Rattle.agreeing_runs.proofs.laws.refused_calls_differ.Goals as goal

pub returns : goal.returns
returns c = refused_calls
