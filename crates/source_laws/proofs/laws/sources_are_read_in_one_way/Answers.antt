use Rattle.source_laws.proofs.SourceLemmas.{one_source_set, one_refusal, not_refused}
use Rattle.source_laws.proofs.laws.sources_are_read_in_one_way.Goals as goal

pub returns-clause-trees : goal.returns-clause-trees
returns-clause-trees c = one_source_set

pub returns-clause-refusals : goal.returns-clause-refusals
returns-clause-refusals c = one_refusal

pub returns-clause-accepted : goal.returns-clause-accepted
returns-clause-accepted c = not_refused
