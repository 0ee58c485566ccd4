use Rattle.unit_names.proofs.RowLemmas.{all_rows}
use Rattle.unit_names.proofs.name_rows.add_names_rows.Goals as goal

pub returns : goal.returns
returns c =
    all_rows c.note_statements.result c.args.unit.now c.new-seen.result c.note_dummies.new.seen _ _ _ _ c.new-seen.ensures.names c.in_ok-note_dummies.ensures.seen c.in_ok-add_own_row.ensures
    c.in_ok-note_dummies.ensures.rows c.note_statements.ensures
