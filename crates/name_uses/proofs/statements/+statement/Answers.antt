use Rattle.std.proofs.Common.{◌++◌, sym, ap, ◌∙◌}
use Rattle.found_rows.proofs.Walks.{put_two}
use Rattle.f_tree.specs.Uses.{uses_of, uses_of_body}
use Rattle.name_table.specs.Named.{names_in}
use Rattle.name_uses.proofs.BodyForms.{uses-IfOne}
use Rattle.name_uses.proofs.statements.+statement.Goals as goal

pub returns-in_ok-add_uses_of-in-IfOne : goal.returns-in_ok-add_uses_of-in-IfOne
returns-in_ok-add_uses_of-in-IfOne t c =
    let arrays = names_in c.args.arrays.now in
    put_two c.add_statement_uses.result _ _ _ (uses_of c.in-IfOne.e) (uses_of_body arrays c.get.result.now) _ c.in_ok-add_uses_of-in-IfOne.ensures
    c.add_statement_uses.ensures
    (ap (λ b. uses_of c.in-IfOne.e ++ uses_of_body arrays b) c.get.ensures ∙ sym (uses-IfOne arrays c.in-IfOne.e c.in-IfOne.body)
    ∙ ap (uses_of_body arrays) (sym c.in-IfOne.is))
