use Rattle.source_verdict.proofs.OneRefusal.{one_refusal, not_refused, one_accepted}
use Rattle.source_verdict.proofs.laws.sources_have_one_verdict.Goals as goal

pub returns-clause-accepted : goal.returns-clause-accepted
returns-clause-accepted c = not_refused

pub returns-clause-trees : goal.returns-clause-trees
returns-clause-trees c = one_accepted

pub returns-clause-refusals : goal.returns-clause-refusals
returns-clause-refusals c = one_refusal
