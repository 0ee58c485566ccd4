use Rattle.std.proofs.Common.{◌∙◌}
use Rattle.found_rows.proofs.Walks.{put_as}
use Rattle.given_judge.proofs.RowForms.{alone_row_is}
use Rattle.given_judge.proofs.block_rows.add_block_row.Goals as goal

pub returns : goal.returns
returns c =
    let x = c.args.name.now in
    put_as c.add_at.result _ _ _ _
    (alone_row_is c.args.unit.now c.args.names.now x c.is_alone.result c.get.result c.get-2.result c.later-at.result c.place_of-place.result c.requires.seen c.is_alone.ensures
    (c.get.ensures ∙ c.requires.blocks.first x) (c.get-2.ensures ∙ c.requires.places.mentioned x) c.later-at.ensures c.place_of-place.ensures)
    c.add_at.ensures
