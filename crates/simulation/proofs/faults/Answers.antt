use Rattle.simulation.proofs.Corollaries.{breaks_later as the_lemma}
use Rattle.simulation.proofs.faults.Goals as goal

pub returns : goal.returns
returns g c x y = the_lemma g.M.Simulation.linking g.M.Simulation.factor g.M.Simulation.linked
