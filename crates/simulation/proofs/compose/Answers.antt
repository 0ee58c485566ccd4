use Rattle.simulation.proofs.Composing.{composite_simulates}
use Rattle.simulation.proofs.compose.Goals as goal

pub returns : goal.returns
returns g c = composite_simulates g.M.Layers.upper g.M.Layers.lower g.M.Layers.composable g.M.Layers.upper_simulates g.M.Layers.lower_simulates
