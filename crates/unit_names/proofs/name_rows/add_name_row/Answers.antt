use Rattle.std.proofs.Common.{sym, ◌∙◌}
use Rattle.found_rows.proofs.Walks.{put_as}
use Rattle.unit_names.proofs.RowLemmas.{row_head_is, row_here_is}
use Rattle.unit_names.proofs.name_rows.add_name_row.Goals as goal

pub returns-then-is_in_head : goal.returns-then-is_in_head
returns-then-is_in_head c =
    put_as c.add_head_row.result _ _ _ _ (row_head_is c.args.unit.now c.args.statement.now c.args.name.now (sym c.is_in_head.ensures ∙ c.if-is_in_head.true)) c.add_head_row.ensures

pub returns : goal.returns
returns c =
    put_as c.add_unless.result _ _ _ _
    (row_here_is c.args.unit.now c.args.statement.now c.args.name.now c.stands-stands.result c.stands-stands.ensures (sym c.is_in_head.ensures ∙ c.if-is_in_head.false)) c.add_unless.ensures
