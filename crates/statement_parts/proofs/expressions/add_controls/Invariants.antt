use Rattle.std.proofs.Common.{◌≡◌, ◌++◌, drop}
use Rattle.declaration_rows.specs.ReferenceRows.{expressions_of_controls}
use Rattle.statement_parts.specs.TreesSeen.{trees}
use Rattle.statement_parts.proofs.expressions.add_controls.Given as goal

abbrev pub invariant-loop-control : goal.invariant-loop-control
invariant-loop-control l = trees l.initial.found.items ++ expressions_of_controls l.controls ≡ trees l.found.items ++ expressions_of_controls (drop l.control-index l.controls)
