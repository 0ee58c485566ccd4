use Rattle.std.proofs.Common.{List, ◌++◌, ◌∷◌, [], sym, ap, ◌∙◌}
use Rattle.found_rows.proofs.Walks.{put_as}
use Rattle.f_tree.specs.Values.{Bytes}
use Rattle.name_table.specs.Named.{names_in}
use Rattle.name_classes.specs.StatedNames.{dummy_name}
use Rattle.name_classes.proofs.StatementForms.{dummy-Named, dummy-Alternate}
use Rattle.unit_names.specs.Undeclared.{head_row, new_rows}
use Rattle.unit_names.proofs.RowLemmas.{rows_none, sees_none, sees_as, sees_ok}
use Rattle.unit_names.proofs.name_rows.note_dummy.Goals as goal

pub returns-in-Named-clause-rows : goal.returns-in-Named-clause-rows
returns-in-Named-clause-rows c =
    put_as c.note_head_name.result _ _ _ _
    (ap (new_rows (head_row c.args.unit.now) (names_in c.args.seen.now))
    (ap (λ (x : Bytes). x ∷ []) c.as_slice.ensures ∙ sym (dummy-Named c.in-Named.name) ∙ ap dummy_name (sym c.in-Named.is))) c.note_head_name.ensures.rows

pub returns-in-Named-clause-seen : goal.returns-in-Named-clause-seen
returns-in-Named-clause-seen c =
    sees_ok c.note_head_name.result _ _ _ _ (ap (λ (x : Bytes). x ∷ []) c.as_slice.ensures ∙ sym (dummy-Named c.in-Named.name) ∙ ap dummy_name (sym c.in-Named.is)) c.note_head_name.ensures.seen

pub returns-in-AlternateReturn-clause-rows : goal.returns-in-AlternateReturn-clause-rows
returns-in-AlternateReturn-clause-rows c =
    rows_none (head_row c.args.unit.now) (names_in c.args.seen.now) _
    ∙ ap (λ (xs : List Bytes). c.args.found.now.items ++ new_rows (head_row c.args.unit.now) (names_in c.args.seen.now) xs) (sym (ap dummy_name c.in-AlternateReturn.is ∙ dummy-Alternate))

pub returns-in-AlternateReturn-clause-seen : goal.returns-in-AlternateReturn-clause-seen
returns-in-AlternateReturn-clause-seen c =
    sees_as _ _ [] _ (sym (ap dummy_name c.in-AlternateReturn.is ∙ dummy-Alternate)) (sees_none c.args.seen.now c.requires.seen)
