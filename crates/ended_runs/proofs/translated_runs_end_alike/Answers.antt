use Rattle.ended_runs.proofs.EndedTexts.{runs_end_alike}
use Rattle.ended_runs.proofs.translated_runs_end_alike.Goals as goal

pub returns : goal.returns
returns c = runs_end_alike
