use Rattle.output_laws.proofs.ListedActs.{starts_are_alike, items_are_alike, ends_are_alike}
use Rattle.output_laws.proofs.outputs.outputs_are_alike.Goals as goal

pub returns : goal.returns
returns c = record { starts = starts_are_alike; items = items_are_alike; ends = ends_are_alike }
