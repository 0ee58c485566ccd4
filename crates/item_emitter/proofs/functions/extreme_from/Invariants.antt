use Rattle.std.proofs.Common.{◌≡◌, length}
use Rattle.item_emission.specs.NamedEmission.{extreme_expr}
use Rattle.item_emitter.proofs.functions.extreme_from.Given as goal

abbrev pub invariant-loop-operand : goal.invariant-loop-operand
invariant-loop-operand l = extreme_expr l.which l.fn.best l.fn.operands.items ≡ extreme_expr l.which l.best l.operands.items

abbrev pub decreases-loop-operand : goal.decreases-loop-operand
decreases-loop-operand l = length l.operands.items
