use Rattle.std.proofs.Common.{sym, ◌∙◌}
use Rattle.found_rows.proofs.Walks.{put_as}
use Rattle.name_table.specs.Named.{names_in}
use Rattle.name_classes.proofs.UsedForms.{on_any}
use Rattle.unit_names.specs.Undeclared.{row_at}
use Rattle.unit_names.proofs.RowLemmas.{sees_old, sees_new, row_old, row_new_is}
use Rattle.unit_names.proofs.name_rows.note_name.Goals as goal

pub returns-then-has-clause-rows : goal.returns-then-has-clause-rows
returns-then-has-clause-rows c = row_old (row_at c.args.unit.now c.args.statement.now) (names_in c.args.seen.now) c.args.name.now _ (sym c.has.ensures ∙ c.if-has.true)

pub returns-then-has-clause-seen : goal.returns-then-has-clause-seen
returns-then-has-clause-seen c = sees_old c.args.seen.now c.args.name.now c.requires.seen (sym c.has.ensures ∙ c.if-has.true)

pub returns-clause-rows : goal.returns-clause-rows
returns-clause-rows c =
    put_as c.add_name_row.result _ _ _ _ (row_new_is (row_at c.args.unit.now c.args.statement.now) (names_in c.args.seen.now) c.args.name.now (sym c.has.ensures ∙ c.if-has.false)) c.add_name_row.ensures

pub returns-clause-seen : goal.returns-clause-seen
returns-clause-seen c =
    on_any c.add_name_row.result _ (sees_new c.args.seen.now c.add.new.self c.args.name.now c.in_ok-add.ensures.names c.in_ok-add.ensures.is_set)
