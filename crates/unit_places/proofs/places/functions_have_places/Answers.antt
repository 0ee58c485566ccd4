use Rattle.unit_places.proofs.Placing.{functions_have_places}
use Rattle.unit_places.proofs.places.functions_have_places.Goals as goal

pub returns : goal.returns
returns c = functions_have_places
