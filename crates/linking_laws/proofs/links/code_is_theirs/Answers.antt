use Rattle.linking_laws.proofs.BuiltCode.{strings_are_theirs, code_is_theirs}
use Rattle.linking_laws.proofs.links.code_is_theirs.Goals as goal

pub returns : goal.returns
returns c = record { strings = strings_are_theirs; code = code_is_theirs }
