use Rattle.unit_translation_laws.proofs.Translated.{plain_units_are_rendered}
use Rattle.unit_translation_laws.proofs.units.plain_units_are_rendered.Goals as goal

pub returns : goal.returns
returns c = plain_units_are_rendered
