use Rattle.prototype_outputs.proofs.OutputLemmas.{each_output, each_list}
use Rattle.prototype_outputs.proofs.outputs.outputs_are_of_their_files.Goals as goal

pub returns-clause-outputs : goal.returns-clause-outputs
returns-clause-outputs c = each_output c.trees_have_the_prototypes_of_their_files.ensures

pub returns-clause-lists : goal.returns-clause-lists
returns-clause-lists c = each_list c.trees_have_the_prototypes_of_their_files.ensures
