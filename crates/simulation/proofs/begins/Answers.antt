use Rattle.simulation.proofs.Corollaries.{begins_alike as the_lemma}
use Rattle.simulation.proofs.begins.Goals as goal

pub returns : goal.returns
returns g c = the_lemma g.M.Simulation.linking g.M.Simulation.factor g.M.Simulation.linked
