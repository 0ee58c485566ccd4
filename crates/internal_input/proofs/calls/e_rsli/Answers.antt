use Rattle.internal_input.proofs.CallLaws.{input-ends}
use Rattle.internal_input.proofs.calls.e_rsli.Goals as goal

pub returns : goal.returns
returns c = input-ends c.args._input
