-- No pair of words is left.
use Rattle.std.proofs.Common.{sym, ◌∙◌, arith}
use Rattle.proto_file.proofs.LineSteps.{params_end}
use Rattle.proto_file.proofs.line.params_in.Goals as goal

pub returns : goal.returns
returns c = sym (c.loop-rest.invariant ∙ params_end c.loop-rest.params c.loop-rest.rest.now (omega arith))
