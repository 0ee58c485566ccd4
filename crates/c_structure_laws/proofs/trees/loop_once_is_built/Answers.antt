use Rattle.c_structure_laws.proofs.BuiltLoop.{loop_once_is_built}
use Rattle.c_structure_laws.proofs.trees.loop_once_is_built.Goals as goal

pub returns : goal.returns
returns c = loop_once_is_built
