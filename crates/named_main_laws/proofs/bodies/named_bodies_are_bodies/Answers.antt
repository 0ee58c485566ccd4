use Rattle.named_main_laws.proofs.NamedBodies.{bodies_are_made}
use Rattle.named_main_laws.proofs.bodies.named_bodies_are_bodies.Goals as goal

pub returns : goal.returns
returns c = bodies_are_made
