-- What is found and the cases behind it are the cases from the first on.
use Rattle.std.proofs.Common.{◌+◌, ◌-◌, length, take}
use Rattle.named_items.specs.Layouts.{layout_of}
use Rattle.statement_builder.proofs.BuiltCases.{AreFound}
use Rattle.statement_builder.proofs.cases.cases_for.Given as goal

abbrev pub invariant-loop-index : goal.invariant-loop-index
invariant-loop-index l = AreFound (layout_of l.layout) (l.span.position + 1) l.cases (take l.span.count l.items.items) l.found.items l.index

abbrev pub decreases-loop-index : goal.decreases-loop-index
decreases-loop-index l = length l.cases - l.index
