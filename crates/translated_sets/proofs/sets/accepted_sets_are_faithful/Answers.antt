use Rattle.translated_sets.proofs.AcceptedSets.{faithful_sets}
use Rattle.translated_sets.proofs.sets.accepted_sets_are_faithful.Goals as goal

pub returns : goal.returns
returns c = faithful_sets c.translations_are_faithful.ensures
