use Rattle.std.proofs.Common.{List, ap, ◌∙◌}
use Rattle.std.proofs.lemmas.Result.{IfOk-weaker}
use Rattle.call_shapes.specs.declaration_rows.GlobalRows.{all_units}
use Rattle.call_shapes.specs.declared.shapes.NamedShape.{NamedShape}
use Rattle.call_shapes.specs.Disagreements.{units_findings, in_order, disagreeing}
use Rattle.call_check.proofs.check.check_calls.Goals as goal

pub returns : goal.returns
unfolding disagreeing
returns c =
    let files = c.args.files.now in
    let lines = c.args.lines.now in
    IfOk-weaker c.in_order.result _ _
    (λ ordered is. is ∙ ap in_order (c.in_ok-findings.ensures
    ∙ ap (λ (ps : List NamedShape). units_findings ps lines (all_units files)) (c.as_slice.ensures.value ∙ c.in_ok-shapes.ensures))) c.in_order.ensures
