-- The items that are left to be let go of are ahead.
use Rattle.std.proofs.Common.{◌≡◌, drop}
use Rattle.statement_builder.proofs.parts.pass.Given as goal

abbrev pub invariant-loop-left : goal.invariant-loop-left
invariant-loop-left l = drop l.left l.items.items ≡ drop l.fn.count l.fn.items.items

abbrev pub decreases-loop-left : goal.decreases-loop-left
decreases-loop-left l = l.left
