use Rattle.found_rows.proofs.Walks.{put_as}
use Rattle.reference_judge.proofs.ShapeLaws.{row_is}
use Rattle.reference_judge.proofs.shapes.add_row.Goals as goal

pub returns : goal.returns
returns c =
    put_as c.add_unless.result _ _ _ _
    (row_is c.args.first.now c.args.reference.now c.get.result c.as_slice.result.now c.agrees-holds.result c.get.ensures c.as_slice.ensures.value c.agrees-holds.ensures) c.add_unless.ensures
