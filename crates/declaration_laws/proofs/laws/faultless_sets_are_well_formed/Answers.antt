use Rattle.declaration_laws.proofs.SetFits.{sets_formed}
use Rattle.declaration_laws.proofs.laws.faultless_sets_are_well_formed.Goals as goal

pub returns : goal.returns
returns c = sets_formed
