use Rattle.std.proofs.Common.{◌≡◌, ◌++◌, drop}
use Rattle.lowering.specs.Statements.{each_once}
use Rattle.statement_lowering.proofs.label_lists.each_once.Given as goal

abbrev pub invariant-loop-place : goal.invariant-loop-place
invariant-loop-place l = l.once.items ++ each_once (drop l.place l.labels) ≡ each_once l.labels
