use Rattle.std.proofs.Common.{◌∷◌, [], sym, ap, ◌∙◌}
use Rattle.found_rows.proofs.Walks.{put_two}
use Rattle.f_tree.specs.declared.statements.Body.{Body}
use Rattle.declaration_rows.specs.ReferenceRows.{parts_of}
use Rattle.statement_parts.proofs.PartForms.{parts-IfOne}
use Rattle.statement_parts.proofs.expressions.+statement.Goals as goal

pub returns-in_ok-add_one-in-IfOne : goal.returns-in_ok-add_one-in-IfOne
returns-in_ok-add_one-in-IfOne t c =
    put_two c.add_expressions.result _ _ _ (c.in-IfOne.e ∷ []) (parts_of c.get.result.now).expressions _ c.in_ok-add_one-in-IfOne.ensures c.add_expressions.ensures
    (ap (λ (b : Body). c.in-IfOne.e ∷ (parts_of b).expressions) c.get.ensures ∙ sym (parts-IfOne c.in-IfOne.e c.in-IfOne.body)
    ∙ ap (λ (b : Body). (parts_of b).expressions) (sym c.in-IfOne.is))
