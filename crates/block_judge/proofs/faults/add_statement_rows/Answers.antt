use Rattle.found_rows.proofs.Walks.{then_ok}
use Rattle.block_judge.proofs.EntryForms.{put_both}
use Rattle.block_judge.specs.BlockSteps.{rows_in}
use Rattle.block_judge.proofs.faults.add_statement_rows.Goals as goal

pub returns : goal.returns
unfolding rows_in
returns c =
    then_ok _ _ c.add_entry_rows.result
    (λ put ss known. put_both c.args.statement.now c.args.found.now.items _ _ _ _ (c.in_ok-add_branch_row.ensures ss known) (put ss known)) c.add_entry_rows.ensures
