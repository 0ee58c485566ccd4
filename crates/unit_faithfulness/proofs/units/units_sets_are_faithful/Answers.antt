use Rattle.unit_translation_laws.proofs.Translated.{plain_units_run_alike}
use Rattle.unit_faithfulness.proofs.Faithfulness.{units_sets_are_faithful_by}
use Rattle.unit_faithfulness.proofs.units.units_sets_are_faithful.Goals as goal

pub returns : goal.returns
returns c = units_sets_are_faithful_by plain_units_run_alike
