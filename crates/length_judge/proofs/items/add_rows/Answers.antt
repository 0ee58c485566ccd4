use Rattle.found_rows.proofs.Walks.{put_two}
use Rattle.length_judge.proofs.ItemLaws.{rows_placed}
use Rattle.length_judge.proofs.items.add_rows.Goals as goal

pub returns : goal.returns
returns c =
    put_two c.add_at-2.result _ _ _ _ _ _ c.in_ok-add_at.ensures c.add_at-2.ensures
    (rows_placed c.args.unit.now c.args.name.now c.mention_place-place.result c.args.is_star c.args.is_large c.mention_place-place.ensures)
