use Rattle.source_verdict.proofs.OneRefusal.{translated_checked}
use Rattle.source_verdict.proofs.laws.translated_sources_are_checked.Goals as goal

pub returns : goal.returns
returns c = translated_checked
