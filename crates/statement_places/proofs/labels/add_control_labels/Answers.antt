use Rattle.loop_ranges.proofs.found_rows.Walks.{put_two}
use Rattle.statement_places.proofs.LabelLemmas.{control_labels_are}
use Rattle.statement_places.proofs.labels.add_control_labels.Goals as goal

pub returns : goal.returns
returns c =
    put_two c.add_written-2.result _ _ _ _ _ _ c.in_ok-add_written.ensures c.add_written-2.ensures
    (control_labels_are c.args.controls.now c.label_among.result c.label_among-2.result c.label_among.ensures c.label_among-2.ensures)
