use Rattle.found_rows.proofs.Walks.{put_as}
use Rattle.length_judge.proofs.ItemLaws.{fact_there, row_known, row_missing}
use Rattle.length_judge.proofs.items.add_item_rows.Goals as goal

pub returns-in-Some : goal.returns-in-Some
returns-in-Some c =
    let u = c.args.unit.now in
    let x = c.args.name.now in
    put_as c.add_rows.result _ _ _ _
    (row_known u x c.in-Some.fact.now _ _ (fact_there u c.args.table.now x c.in-Some.fact.now c.requires.table c.in-Some.ensures)
    c.is_external_star-is_star.ensures c.is_large_item.ensures) c.add_rows.ensures

pub returns-in-None : goal.returns-in-None
returns-in-None c = row_missing c.args.unit.now c.args.table.now c.args.name.now _ c.requires.table c.in-None.ensures
