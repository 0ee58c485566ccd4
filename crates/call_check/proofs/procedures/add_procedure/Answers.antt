use Rattle.std.proofs.Common.{List, map, ap, ◌∙◌}
use Rattle.statement_parts.proofs.found_rows.Walks.{put_as}
use Rattle.expression_judge.specs.declared.names.Fact.{Fact}
use Rattle.call_shapes.specs.declared.shapes.Argument.{Argument}
use Rattle.call_shapes.specs.ProcedureShapes.{shaped}
use Rattle.call_check.specs.ProceduresSeen.{seen_dummy, result_by_kind, seen_procedure}
use Rattle.call_check.proofs.procedures.add_procedure.Goals as goal

pub returns : goal.returns
unfolding seen_procedure
returns c =
    let x = c.args.name.now in
    put_as c.add_shape.result _ _ (shaped x c.in_ok-arguments.arguments c.result_by_kind-given.result) _
    (ap (λ (as' : List Argument). shaped x as' c.result_by_kind-given.result) c.in_ok-arguments.ensures
    ∙ ap (shaped x (map (seen_dummy c.args.names.now) c.args.dummies.now))
    (c.result_by_kind-given.ensures ∙ ap (λ (f : Fact). result_by_kind c.args.kind.now f.basic) c.fact.ensures))
    c.add_shape.ensures
