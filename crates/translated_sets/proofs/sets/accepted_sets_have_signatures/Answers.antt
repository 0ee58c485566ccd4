use Rattle.translated_sets.proofs.AcceptedSets.{signed_sets}
use Rattle.translated_sets.proofs.sets.accepted_sets_have_signatures.Goals as goal

pub returns : goal.returns
returns c = signed_sets c.translations_have_signatures.ensures
