use Rattle.std.proofs.Common.{List, ◌++◌, ap, ◌∙◌}
use Rattle.f_tree.specs.declared.refusals.Refusal.{Refusal}
use Rattle.declaration_rows.specs.NameRows.{names_rows}
use Rattle.declaration_rows.specs.Verdicts.{first_of}
use Rattle.name_table.specs.Named.{texts}
use Rattle.name_judge.proofs.judge.name_fault.Goals as goal

pub returns : goal.returns
returns c =
    c.first_of.ensures
    ∙ ap first_of (c.as_slice-2.ensures.value ∙ c.in_ok-add_names_rows.ensures
    ∙ ap (λ (rs : List Refusal). rs ++ names_rows c.args.unit.now (texts c.as_slice.result.now)) c.new-found.ensures.items
    ∙ ap (names_rows c.args.unit.now) (ap texts c.as_slice.ensures.value ∙ c.in_ok-names.ensures))
