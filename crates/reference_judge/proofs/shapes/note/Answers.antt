use Rattle.reference_judge.proofs.ShapeLaws.{noted_before, noted_ok}
use Rattle.reference_judge.proofs.shapes.note.Goals as goal

pub returns-in-Some : goal.returns-in-Some
returns-in-Some c = λ x. noted_before c.args.first.now c.args.reference.now.name.now x _ _ c.in-Some.ensures

pub returns-in-None : goal.returns-in-None
returns-in-None c = noted_ok c.put.result c.args.first.now c.put.new.self c.args.reference.now.name.now c.as_slice.result _ c.in-None.ensures c.as_slice.ensures.value c.put.ensures
