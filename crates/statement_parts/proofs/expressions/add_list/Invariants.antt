use Rattle.std.proofs.Common.{◌≡◌, ◌++◌, drop}
use Rattle.statement_parts.specs.TreesSeen.{trees}
use Rattle.statement_parts.proofs.expressions.add_list.Given as goal

abbrev pub invariant-loop-e : goal.invariant-loop-e
invariant-loop-e l = trees l.initial.found.items ++ l.es ≡ trees l.found.items ++ (drop l.e-index l.es)
