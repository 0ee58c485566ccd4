use Rattle.std.proofs.Common.{ap, ◌∙◌}
use Rattle.std.specs.List.{list_any}
use Rattle.found_rows.proofs.Walks.{then_ok}
use Rattle.loop_ranges.specs.LoopEnds.{labelled_at}
use Rattle.block_judge.specs.Blocks.{enters_in}
use Rattle.block_judge.proofs.RowLemmas.{branch_row_put}
use Rattle.block_judge.proofs.faults.add_branch_row.Goals as goal

pub returns : goal.returns
returns c =
    then_ok _ _ c.add_unless.result
    (λ put ss known.
    branch_row_put ss c.args.place c.args.statement.now c.args.found.now.items _ _ _ _ c.new-labels.ensures.items c.in_ok-add_branches.ensures
    (c.enters_any-stays_out.ensures ss known ∙ ap (list_any (λ label. enters_in ss c.args.place (labelled_at 0 ss label))) c.as_slice.ensures.value) put)
    c.add_unless.ensures
