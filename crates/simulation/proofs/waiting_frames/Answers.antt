use Rattle.simulation.proofs.Waiting.{below_waits}
use Rattle.simulation.proofs.waiting_frames.Goals as goal

pub returns : goal.returns
returns g c b μ₀ μ i us fs = below_waits g.M.Simulation.linking
