use Rattle.f2c_program.proofs.HostRowLemmas.{called_over}
use Rattle.f2c_program.proofs.host.call_on_host.Goals as goal

pub returns : goal.returns
returns c = called_over _ _ _ _ _ _ _ _ c.new-input.ensures c.new-output.ensures c.call_over_streams.ensures
