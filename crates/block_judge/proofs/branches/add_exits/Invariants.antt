use Rattle.std.proofs.Common.{◌≡◌, ◌++◌, drop}
use Rattle.declaration_rows.specs.BlockRows.{exits_of}
use Rattle.block_judge.proofs.branches.add_exits.Given as goal

abbrev pub invariant-loop-e : goal.invariant-loop-e
invariant-loop-e l = l.initial.labels.items ++ exits_of l.es ≡ l.labels.items ++ exits_of (drop l.e-index l.es)
