use Rattle.emitted_names.proofs.ItemNames.{emitted_names_are_known}
use Rattle.emitted_names.proofs.names.emitted_names_are_known.Goals as goal

pub returns : goal.returns
returns c = emitted_names_are_known
