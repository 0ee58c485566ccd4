use Rattle.source_laws.proofs.SourceLemmas.{meant}
use Rattle.source_laws.proofs.laws.accepted_sources_are_meant.Goals as goal

pub returns : goal.returns
returns c = meant
