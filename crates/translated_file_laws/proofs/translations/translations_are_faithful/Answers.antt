use Rattle.translated_file_laws.proofs.Made.{translations_are_faithful_by}
use Rattle.translated_file_laws.proofs.translations.translations_are_faithful.Goals as goal

pub returns : goal.returns
returns c = translations_are_faithful_by c.named_units_are_units.ensures c.plain_unit_sets_are_faithful.ensures
