use Rattle.std.specs.Prelude.{refl}
use Rattle.simulation.specs.Machine.{machine_opened}
use Rattle.small_instance.proofs.example.aliased_runs.Goals as goal

pub returns-clause-source : goal.returns-clause-source
unfolding machine_opened
returns-clause-source c = refl

pub returns-clause-target : goal.returns-clause-target
unfolding machine_opened
returns-clause-target c = refl
