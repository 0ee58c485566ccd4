use Rattle.std.proofs.Common.{length}
use Rattle.cards.proofs.ColumnLemmas.{Spreading}
use Rattle.cards.proofs.columns.in_columns.Given as goal

abbrev pub invariant-loop-column : goal.invariant-loop-column
invariant-loop-column l = Spreading 72 l.line l.columns l.column l.past

abbrev pub decreases-loop-column : goal.decreases-loop-column
decreases-loop-column l = length l.past
