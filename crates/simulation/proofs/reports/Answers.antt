use Rattle.simulation.proofs.Corollaries.{reports as the_lemma}
use Rattle.simulation.proofs.reports.Goals as goal

pub returns : goal.returns
returns g c x y = the_lemma g.M.Simulation.linking g.M.Simulation.factor g.M.Simulation.linked
