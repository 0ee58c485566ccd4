use Rattle.std.proofs.Common.{◌≡◌, ◌+◌, ◌++◌, drop}
use Rattle.unit_writer.proofs.LocalLaws.{lists_behind}
use Rattle.unit_writer.proofs.locals.add_lists.Given as goal

abbrev pub invariant-loop-before : goal.invariant-loop-before
invariant-loop-before l = l.initial.locals.items ++ lists_behind 1 l.lists ≡ l.locals.items ++ lists_behind (l.before + 1) (drop l.before l.lists)
