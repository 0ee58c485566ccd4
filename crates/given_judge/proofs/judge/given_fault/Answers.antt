use Rattle.std.proofs.Common.{◌++◌, [], append_assoc, ap, ◌∙◌}
use Rattle.declaration_rows.specs.GivenRows.{heading_rows, heading_givens, kept_from, given_rows_from, block_name_rows, all_block_names, unit_given_rows}
use Rattle.declaration_rows.specs.Verdicts.{first_of}
use Rattle.given_judge.proofs.judge.given_fault.Goals as goal

pub returns : goal.returns
unfolding unit_given_rows
returns c =
    let u = c.args.unit.now in
    let heading = heading_rows u in
    let given = given_rows_from u (kept_from [] (heading_givens u)).givens u.statements in
    let blocks = block_name_rows u (all_block_names u.statements) in
    c.first_of.ensures
    ∙ ap first_of
    (c.as_slice.ensures.value ∙ c.in_ok-add_block_rows.ensures
    ∙ ap (λ rs. rs ++ blocks) (c.in_ok-add_given_rows.ensures ∙ ap (λ rs. rs ++ (heading ++ given)) c.new-found.ensures.items) ∙ append_assoc heading given blocks)
