use Rattle.bridge.proofs.Together.{translations_run_alike}
use Rattle.bridge.proofs.runs.translations_run_alike.Goals as goal

pub returns : goal.returns
returns c = translations_run_alike
