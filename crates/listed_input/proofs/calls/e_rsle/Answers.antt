use Rattle.listed_input.proofs.CallLaws.{input-ends}
use Rattle.listed_input.proofs.calls.e_rsle.Goals as goal

pub returns : goal.returns
returns c = input-ends c.args._input
