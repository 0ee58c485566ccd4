use Rattle.std.proofs.Common.{arith}
use Rattle.constant_values.proofs.OperandLemmas.{no-operands}
use Rattle.constant_values.proofs.intrinsics.apply.Goals as goal

pub returns-in-empty : goal.returns-in-empty
returns-in-empty c = no-operands c.args.function c.args.values.now (omega arith)
