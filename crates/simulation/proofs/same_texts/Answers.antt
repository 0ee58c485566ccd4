use Rattle.simulation.proofs.Corollaries.{same_texts as the_lemma}
use Rattle.simulation.proofs.same_texts.Goals as goal

pub returns : goal.returns
returns g c x y = the_lemma g.M.Simulation.linking g.M.Simulation.factor g.M.Simulation.linked
