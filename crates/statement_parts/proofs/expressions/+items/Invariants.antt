use Rattle.std.proofs.Common.{◌≡◌, ◌++◌, drop}
use Rattle.declaration_rows.specs.ReferenceRows.{expressions_of_items}
use Rattle.statement_parts.specs.TreesSeen.{trees}
use Rattle.statement_parts.proofs.expressions.+items.Given as goal

abbrev pub invariant-add_items-loop-item : goal.invariant-add_items-loop-item
invariant-add_items-loop-item l = trees l.initial.found.items ++ expressions_of_items l.items ≡ trees l.found.items ++ expressions_of_items (drop l.item-index l.items)
