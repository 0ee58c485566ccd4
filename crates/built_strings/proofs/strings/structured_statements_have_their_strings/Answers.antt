use Rattle.built_strings.proofs.Built.{each_structure_has_its_strings}
use Rattle.built_strings.proofs.strings.structured_statements_have_their_strings.Goals as goal

pub returns : goal.returns
returns c = each_structure_has_its_strings
