use Rattle.std.proofs.Common.{ap, ◌∙◌}
use Rattle.found_rows.proofs.Walks.{put_as}
use Rattle.unit_names.specs.Undeclared.{head_row}
use Rattle.unit_names.proofs.RowLemmas.{own_some, own_none}
use Rattle.unit_names.proofs.name_rows.add_own_row.Goals as goal

pub returns-in-Some : goal.returns-in-Some
returns-in-Some c =
    put_as c.add_head_row.result _ _ _ _ (ap (head_row c.args.unit.now) c.as_slice.ensures ∙ own_some c.args.unit.now c.args.unit.now.name c.in-Some.name c.in-Some.is) c.add_head_row.ensures

pub returns-in-None : goal.returns-in-None
returns-in-None c = own_none c.args.unit.now c.args.unit.now.name _ c.in-None.is
