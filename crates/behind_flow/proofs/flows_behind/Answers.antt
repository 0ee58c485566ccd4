use Rattle.behind_flow.proofs.FlowBehind.{flows_behind}
use Rattle.behind_flow.proofs.flows_behind.Goals as goal

pub returns : goal.returns
returns c = flows_behind
