use Rattle.std.proofs.Common.{◌≡◌, ◌≤◌, Some, length, drop}
use Rattle.std.specs.Prelude.{reverse}
use Rattle.f_tree.specs.Lines.{Naming, way_of, jobs_of}
use Rattle.lowering.specs.Statements.{work_code}
use Rattle.lowered_tree.specs.Shapes.{layout_of, steps_of}
use Rattle.expression_lowering.specs.TableNames.{AreFactsOf}
use Rattle.statement_lowering.proofs.transfers.lower_items.Given as goal

abbrev pub invariant-loop-at : goal.invariant-loop-at
invariant-loop-at l = record {
  within : l.at ≤ length l.items;
  worked :
      (names : Naming) → AreFactsOf names l.table →
      work_code l.free (jobs_of (way_of l.way) (layout_of l.how) names (drop l.at l.items)) ≡ Some (steps_of (reverse l.behind.items));
}

abbrev pub decreases-loop-at : goal.decreases-loop-at
decreases-loop-at l = l.at
