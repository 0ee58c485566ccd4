use Rattle.c_tree.specs.Linking.{program}
use Rattle.known_code.proofs.KnownLaws.{known-functions}
use Rattle.known_code.proofs.known.linked_code_is_known.Goals as goal

pub returns : goal.returns
returns c = λ files formed linked. known-functions (program files).functions (c.well_formed_code_stands.ensures.functions files formed linked)
