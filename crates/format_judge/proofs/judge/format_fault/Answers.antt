use Rattle.std.proofs.Common.{List, ◌++◌, ap, ◌∙◌}
use Rattle.declaration_rows.specs.FormatRows.{unit_format_rows}
use Rattle.declaration_rows.specs.NameRows.{known_in}
use Rattle.declaration_rows.specs.Verdicts.{first_of}
use Rattle.f_tree.specs.declared.refusals.Refusal.{Refusal}
use Rattle.format_judge.specs.FormatsFound.{rows_found}
use Rattle.format_judge.proofs.FormatLaws.{rows_alike}
use Rattle.format_judge.proofs.judge.format_fault.Goals as goal

pub returns : goal.returns
unfolding unit_format_rows
returns c =
    let u = c.args.unit.now in
    let names = c.args.names.now in
    c.first_of.ensures
    ∙ ap first_of
    (c.as_slice-2.ensures.value ∙ c.in_ok-add_rows.ensures
    ∙ ap (λ (rs : List Refusal). rs ++ rows_found names c.as_slice.result.now) c.new-found.ensures.items
    ∙ ap (rows_found names) c.as_slice.ensures ∙ rows_alike (known_in u) names c.requires u.statements)
