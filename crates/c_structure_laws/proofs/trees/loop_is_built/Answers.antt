use Rattle.c_structure_laws.proofs.BuiltLoop.{loop_is_built}
use Rattle.c_structure_laws.proofs.trees.loop_is_built.Goals as goal

pub returns : goal.returns
returns c = loop_is_built
