use Rattle.behind_flow.proofs.OutlineBehind.{outlined_behind}
use Rattle.behind_flow.proofs.outlined_behind.Goals as goal

pub returns : goal.returns
returns c = outlined_behind
