-- Each call has fewer turns, or as many and is nearer to statements.
use Rattle.std.proofs.Common.{◌+◌, ◌*◌}
use Rattle.named_items.specs.Layouts.{layout_of}
use Rattle.statement_builder.proofs.Building.{IsUnderway}
use Rattle.statement_builder.proofs.builder.+statements.Given as goal

abbrev pub decreases-statements : goal.decreases-statements
decreases-statements l = 8 * l.span.turns + 0

abbrev pub decreases-one_arm : goal.decreases-one_arm
decreases-one_arm l = 8 * l.span.turns + 1

abbrev pub decreases-second_arm : goal.decreases-second_arm
decreases-second_arm l = 8 * l.arm.turns + 1

abbrev pub decreases-once_for : goal.decreases-once_for
decreases-once_for l = 8 * l.span.turns + 1

abbrev pub decreases-turns_for : goal.decreases-turns_for
decreases-turns_for l = 8 * l.span.turns + 1

abbrev pub decreases-two_arms : goal.decreases-two_arms
decreases-two_arms l = 8 * l.span.turns + 2

abbrev pub decreases-carry : goal.decreases-carry
decreases-carry l = 8 * l.span.turns + 3

abbrev pub decreases-part_at : goal.decreases-part_at
decreases-part_at l = 8 * l.span.turns + 4

abbrev pub invariant-statements-loop-left : goal.invariant-statements-loop-left
invariant-statements-loop-left l =
    IsUnderway (layout_of l.layout) l.fn.span.position l.fn.span.count l.fn.span.turns l.fn.items.items l.written.items l.left.position l.left.count l.left.turns l.items.items

abbrev pub decreases-statements-loop-left : goal.decreases-statements-loop-left
decreases-statements-loop-left l = l.left.turns
