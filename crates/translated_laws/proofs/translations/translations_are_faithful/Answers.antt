use Rattle.translated_laws.proofs.Translated.{translations_are_faithful}
use Rattle.translated_laws.proofs.translations.translations_are_faithful.Goals as goal

pub returns : goal.returns
returns c = translations_are_faithful c.plain_mains_are_told.ensures c.named_bodies_are_bodies.ensures c.main_files_are_of_bytes.ensures c.plain_files_are_faithful.ensures
