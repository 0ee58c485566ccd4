use Rattle.unit_translation_laws.proofs.Translated.{plain_units_run_alike}
use Rattle.unit_translation_laws.proofs.units.plain_units_run_alike.Goals as goal

pub returns : goal.returns
returns c = plain_units_run_alike
