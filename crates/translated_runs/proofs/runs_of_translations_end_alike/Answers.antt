use Rattle.translated_runs.proofs.Endings.{translations_end_alike}
use Rattle.translated_runs.proofs.runs_of_translations_end_alike.Goals as goal

pub returns : goal.returns
returns c = translations_end_alike
