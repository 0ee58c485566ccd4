use Rattle.std.proofs.Common.{◌∙◌}
use Rattle.declared_types.proofs.ShapeLemmas.{shape_is}
use Rattle.declared_types.proofs.shapes.shape.Goals as goal

pub returns : goal.returns
returns c = c.noted.ensures ∙ shape_is c.args.unit.now c.args.shapes.now c.args.name.now c.requires
