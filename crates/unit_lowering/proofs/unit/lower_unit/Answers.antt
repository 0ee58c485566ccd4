use Rattle.unit_lowering.proofs.UnitTexts.{unit_read_lowered}
use Rattle.unit_lowering.proofs.unit.lower_unit.Goals as goal

pub returns-in-Ok-with_marks-clause-text : goal.returns-in-Ok-with_marks-clause-text
returns-in-Ok-with_marks-clause-text c =
    unit_read_lowered c.args.table.now c.args.once c.as_slice-assigned.result.now c.in-Ok.labels.items c.args.unit.now.statements c.as_slice-statements.result.now c.in_ok-places.places.items
    c.as_slice.result.now c.as_slice-2.result.now c.in_ok-steps.steps.items c.in-Ok-with_marks.text c.as_slice-statements.ensures c.as_slice.ensures.value c.as_slice-2.ensures.value
    c.as_slice-assigned.ensures.value c.in-Ok.ensures c.in_ok-places.ensures.places c.in_ok-steps.ensures.lowered c.in-Ok-with_marks.ensures.steps c.in-Ok-with_marks.ensures.labels
    c.in-Ok-with_marks.ensures.marks
