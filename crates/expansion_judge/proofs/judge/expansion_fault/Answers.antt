use Rattle.std.proofs.Common.{List, ◌++◌, ap, ◌∙◌}
use Rattle.declaration_rows.specs.Verdicts.{first_of}
use Rattle.f_tree.specs.declared.refusals.Refusal.{Refusal}
use Rattle.expansion_judge.specs.NodesCounted.{rows_by}
use Rattle.expansion_judge.proofs.FunctionLaws.{rows_found}
use Rattle.expansion_judge.proofs.judge.expansion_fault.Goals as goal

pub returns : goal.returns
returns c =
    let functions = c.in_ok-functions.functions in
    c.first_of.ensures
    ∙ ap first_of
    (c.as_slice-3.ensures.value ∙ c.in_ok-add_rows.ensures ∙ ap (λ (rs : List Refusal). rs ++ rows_by functions c.as_slice-2.result.now) c.new-found.ensures.items
    ∙ rows_found c.args.unit.now functions _ _ _ c.in_ok-arrays.ensures.names c.as_slice.ensures c.as_slice-2.ensures c.in_ok-functions.ensures)
