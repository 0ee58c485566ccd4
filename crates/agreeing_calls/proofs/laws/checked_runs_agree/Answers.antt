use Rattle.agreeing_calls.proofs.SetLemmas.{checked_runs}
use Rattle.agreeing_calls.proofs.laws.checked_runs_agree.Goals as goal

pub returns : goal.returns
returns c = checked_runs c.agreeing_runs_agree.ensures
