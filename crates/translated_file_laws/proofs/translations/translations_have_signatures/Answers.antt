use Rattle.translated_file_laws.proofs.Made.{translations_have_signatures_by}
use Rattle.translated_file_laws.proofs.translations.translations_have_signatures.Goals as goal

pub returns : goal.returns
returns c = translations_have_signatures_by c.named_units_are_units.ensures
