use Rattle.declared_types.proofs.ShapeLemmas.{shapes_ok}
use Rattle.declared_types.proofs.shapes.unit_shapes.Goals as goal

pub returns : goal.returns
returns c = shapes_ok c.shapes_among.result c.args.unit.now c.as_slice.result.now c.as_slice.ensures c.shapes_among.ensures
