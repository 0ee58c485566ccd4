use Rattle.main_translation_laws.proofs.Translated.{plain_mains_run_alike}
use Rattle.main_translation_laws.proofs.mains.plain_mains_run_alike.Goals as goal

pub returns : goal.returns
returns c = plain_mains_run_alike
