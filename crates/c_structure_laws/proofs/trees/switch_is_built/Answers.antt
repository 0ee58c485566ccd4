use Rattle.c_structure_laws.proofs.BuiltLoop.{switch_is_built}
use Rattle.c_structure_laws.proofs.trees.switch_is_built.Goals as goal

pub returns : goal.returns
returns c = switch_is_built
