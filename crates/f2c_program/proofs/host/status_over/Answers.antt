use Rattle.f2c_program.proofs.HostRowLemmas.{called_on}
use Rattle.f2c_program.proofs.host.status_over.Goals as goal

pub returns : goal.returns
returns g c = called_on _ _ _ _ _ c.new-shelf.ensures c.status_of_call.ensures
