use Rattle.std.proofs.Common.{List, ◌++◌, ap, ◌∙◌}
use Rattle.f_tree.specs.declared.refusals.Refusal.{Refusal}
use Rattle.declaration_rows.specs.LengthRows.{length_rows_from, item_rows, unit_length_rows}
use Rattle.declaration_rows.specs.NameRows.{all_names}
use Rattle.declaration_rows.specs.Verdicts.{first_of}
use Rattle.length_judge.proofs.judge.declared_fault.Goals as goal

pub returns : goal.returns
unfolding unit_length_rows
returns c =
    let u = c.args.unit.now in
    let names = item_rows u (all_names u) in
    c.first_of.ensures
    ∙ ap first_of
    (c.as_slice.ensures.value ∙ c.in_ok-add_names_rows.ensures
    ∙ ap (λ (rs : List Refusal). rs ++ names)
    (c.in_ok-add_statements_rows.ensures ∙ ap (λ (rs : List Refusal). rs ++ length_rows_from u c.as_slice-statements.result.now) c.new-found.ensures.items
    ∙ ap (length_rows_from u) c.as_slice-statements.ensures))
