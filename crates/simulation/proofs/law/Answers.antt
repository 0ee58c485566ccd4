use Rattle.simulation.proofs.LawProof.{law as the_lemma}
use Rattle.simulation.proofs.law.Goals as goal

pub returns : goal.returns
returns g c x y = the_lemma g.M.Simulation.linking g.M.Simulation.factor g.M.Simulation.linked
