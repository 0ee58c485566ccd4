use Rattle.std.proofs.Common.{List, ◌++◌, ap, ◌∙◌}
use Rattle.found_rows.proofs.Walks.{put_as}
use Rattle.f_tree.specs.Uses.{uses_of_body}
use Rattle.name_table.specs.Named.{names_in}
use Rattle.name_uses.specs.declared.uses.Use.{Use}
use Rattle.name_uses.specs.UsesSeen.{used_in}
use Rattle.unit_names.specs.Undeclared.{row_at, new_rows}
use Rattle.unit_names.proofs.RowLemmas.{sees_ok, statement_names_are}
use Rattle.unit_names.proofs.name_rows.note_statement.Goals as goal

pub returns-clause-rows : goal.returns-clause-rows
returns-clause-rows c =
    put_as c.note_uses.result _ _ _ _
    (ap (new_rows (row_at c.args.unit.now c.args.statement.now) (names_in c.args.seen.now))
    (statement_names_are c.args.unit.now c.args.statement.now (names_in c.args.signs.now.arrays) (used_in c.as_slice.result.now) c.requires.signs.arrays.names
    (ap used_in c.as_slice.ensures.value ∙ c.in_ok-add_statement_uses.ensures
    ∙ ap (λ (us : List Use). used_in us ++ uses_of_body (names_in c.args.signs.now.arrays) c.args.statement.now.body) c.new-uses.ensures.items)))
    c.note_uses.ensures.rows

pub returns-clause-seen : goal.returns-clause-seen
returns-clause-seen c =
    sees_ok c.note_uses.result _ _ _ _
    (statement_names_are c.args.unit.now c.args.statement.now (names_in c.args.signs.now.arrays) (used_in c.as_slice.result.now) c.requires.signs.arrays.names
    (ap used_in c.as_slice.ensures.value ∙ c.in_ok-add_statement_uses.ensures
    ∙ ap (λ (us : List Use). used_in us ++ uses_of_body (names_in c.args.signs.now.arrays) c.args.statement.now.body) c.new-uses.ensures.items))
    c.note_uses.ensures.seen
