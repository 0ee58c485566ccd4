use Rattle.source_verdict.proofs.FrontLaws.{refused_by_fronts, accepted_by_fronts}
use Rattle.source_verdict.proofs.laws.sources_are_judged_by_fronts.Goals as goal

pub returns-clause-refused : goal.returns-clause-refused
returns-clause-refused c = refused_by_fronts

pub returns-clause-accepted : goal.returns-clause-accepted
returns-clause-accepted c = accepted_by_fronts
