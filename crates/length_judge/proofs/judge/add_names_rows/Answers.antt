use Rattle.std.proofs.Common.{ap, ◌∙◌}
use Rattle.found_rows.proofs.Walks.{put_as}
use Rattle.declaration_rows.specs.LengthRows.{item_rows}
use Rattle.name_table.specs.Named.{texts}
use Rattle.length_judge.proofs.judge.add_names_rows.Goals as goal

pub returns : goal.returns
returns c =
    put_as c.add_items_rows.result _ _ (item_rows c.args.unit.now (texts c.as_slice.result.now)) _
    (ap (item_rows c.args.unit.now) (ap texts c.as_slice.ensures.value ∙ c.in_ok-names.ensures)) c.add_items_rows.ensures
