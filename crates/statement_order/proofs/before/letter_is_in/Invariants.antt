use Rattle.std.proofs.Common.{◌≡◌, drop}
use Rattle.std.specs.List.{list_any}
use Rattle.statement_order.specs.BeforeSteps.{in_range}
use Rattle.statement_order.proofs.before.letter_is_in.Given as goal

abbrev pub invariant-loop-range : goal.invariant-loop-range
invariant-loop-range l = list_any (in_range l.letter) l.ranges ≡ list_any (in_range l.letter) (drop l.range-index l.ranges)
