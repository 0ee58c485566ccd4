use Rattle.std.proofs.Common.{◌≡◌, drop, fold}
use Rattle.lowered_tree.specs.Shapes.{pures_of}
use Rattle.main_translation.specs.Contents.{with_new, own_values}
use Rattle.unit_contents.proofs.constants.add_own_values.Given as goal

-- those that are there, with those of the operands that are left
abbrev pub invariant-loop-operand : goal.invariant-loop-operand
invariant-loop-operand l = fold with_new l.values.keys (own_values (pures_of (drop l.operand-index l.operands))) ≡ fold with_new l.initial.values.keys (own_values (pures_of l.operands))
