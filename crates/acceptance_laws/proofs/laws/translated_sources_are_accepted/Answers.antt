use Rattle.acceptance_laws.proofs.Whole.{accepted_by_all}
use Rattle.acceptance_laws.proofs.laws.translated_sources_are_accepted.Goals as goal

pub returns : goal.returns
returns c = accepted_by_all
