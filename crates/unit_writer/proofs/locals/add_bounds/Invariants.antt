use Rattle.std.proofs.Common.{◌≡◌, ◌++◌, drop}
use Rattle.unit_writer.proofs.LocalLaws.{bounds_behind}
use Rattle.unit_writer.proofs.locals.add_bounds.Given as goal

abbrev pub invariant-loop-one : goal.invariant-loop-one
invariant-loop-one l = l.initial.locals.items ++ bounds_behind l.bounds ≡ l.locals.items ++ bounds_behind (drop l.one-index l.bounds)
