use Rattle.agreeing_calls.proofs.RefusalLemmas.{refusals_of_length}
use Rattle.agreeing_calls.proofs.laws.refusals_are_of_length.Goals as goal

pub returns : goal.returns
returns c = refusals_of_length c.checked_runs_agree.ensures c.refused_calls_differ.ensures
