use Rattle.built_sizes.proofs.Built.{each_structure_has_a_size}
use Rattle.built_sizes.proofs.sized.structured_statements_have_a_size.Goals as goal

pub returns : goal.returns
returns c = each_structure_has_a_size
