use Rattle.loop_ranges.proofs.found_rows.Walks.{put_two}
use Rattle.loop_entries.proofs.BranchForms.{controls_are}
use Rattle.loop_entries.proofs.branches.add_controls.Goals as goal

pub returns : goal.returns
returns c =
    put_two c.add_written-2.result _ _ _ _ _ _ c.in_ok-add_written.ensures c.add_written-2.ensures
    (controls_are c.args.controls.now c.label_among.result c.label_among-2.result c.label_among.ensures c.label_among-2.ensures)
