use Rattle.std.proofs.Common.{List, ◌++◌, ap, ◌∙◌, append_assoc}
use Rattle.f_tree.specs.declared.refusals.Refusal.{Refusal}
use Rattle.declaration_rows.specs.NameRows.{all_names}
use Rattle.declaration_rows.specs.ReferenceRows.{shapes_rows, passed_rows, dummy_procedure_rows, unit_reference_rows}
use Rattle.declaration_rows.specs.Verdicts.{first_of}
use Rattle.reference_judge.specs.FirstShapes.{no_references}
use Rattle.reference_judge.proofs.judge.reference_fault.Goals as goal

pub returns-clause-fault : goal.returns-clause-fault
unfolding unit_reference_rows no_references
returns-clause-fault c =
    let u = c.args.unit.now in
    let shapes = shapes_rows u no_references u.statements in
    let passed = passed_rows u u.statements in
    let dummies = dummy_procedure_rows u (all_names u) in
    c.first_of.ensures
    ∙ ap first_of
    (c.as_slice.ensures.value ∙ c.in_ok-add_dummies.ensures ∙ ap (λ (rs : List Refusal). rs ++ dummies) c.in_ok-add_passed.ensures
    ∙ ap (λ (rs : List Refusal). (rs ++ passed) ++ dummies) (c.in_ok-add_shapes.ensures.rows ∙ ap (λ (rs : List Refusal). rs ++ shapes) c.new-found.ensures.items)
    ∙ append_assoc shapes passed dummies)
