use Rattle.std.proofs.Common.{List, ap, ◌∙◌}
use Rattle.found_rows.proofs.Walks.{put_as}
use Rattle.reference_judge.specs.declared.references.Reference.{Reference}
use Rattle.reference_judge.specs.FirstShapes.{rows_from, no_references}
use Rattle.reference_judge.specs.ReferencesSeen.{located}
use Rattle.reference_judge.proofs.BindingLaws.{held}
use Rattle.reference_judge.proofs.ShapeLaws.{unit_rows}
use Rattle.reference_judge.proofs.judge.add_shapes.Goals as goal

pub returns-clause-rows : goal.returns-clause-rows
returns-clause-rows c =
    put_as c.add_shape_rows.result _ _ (rows_from no_references (located c.as_slice.result.now)) _
    (ap (λ (rs : List Reference). rows_from no_references (located rs)) c.as_slice.ensures.value ∙ ap (rows_from no_references) c.in_ok-references.ensures.references
    ∙ unit_rows c.args.unit.now no_references _)
    c.add_shape_rows.ensures

pub returns-clause-names : goal.returns-clause-names
returns-clause-names c = held _ c.add_shape_rows.result c.in_ok-references.ensures.names
