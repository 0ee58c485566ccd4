use Rattle.std.proofs.Common.{◌≡◌, List, drop}
use Rattle.std.specs.List.{list_any}
use Rattle.f_tree.specs.declared.statements.Stmt.{Stmt}
use Rattle.loop_ranges.specs.LoopEnds.{labelled_at}
use Rattle.block_judge.specs.Blocks.{AreBlocks, enters_in}
use Rattle.block_judge.proofs.blocks.Blocks.enters_any.Given as goal

abbrev pub invariant-loop-label : goal.invariant-loop-label
invariant-loop-label l = (ss : List Stmt) → AreBlocks ss l.self →
    list_any (λ label. enters_in ss l.from (labelled_at 0 ss label)) l.labels ≡ list_any (λ label. enters_in ss l.from (labelled_at 0 ss label)) (drop l.label-index l.labels)
