use Rattle.call_bridge.proofs.Together.{calls_run_alike}
use Rattle.call_bridge.proofs.runs.calls_run_alike.Goals as goal

pub returns : goal.returns
returns c = calls_run_alike
