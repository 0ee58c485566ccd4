use Rattle.name_table.specs.Named.{names_in}
use Rattle.name_places.proofs.PlaceLemmas.{places_ok}
use Rattle.name_places.proofs.places.name_places.Goals as goal

pub returns : goal.returns
returns c = places_ok c.first_places.result c.args.unit.now (names_in c.args.arrays.now) c.as_slice.result.now c.as_slice.ensures c.requires.arrays c.first_places.ensures
