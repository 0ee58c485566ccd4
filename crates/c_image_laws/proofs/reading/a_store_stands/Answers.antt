use Rattle.c_image_laws.proofs.ExampleStands.{example_stands}
use Rattle.c_image_laws.proofs.reading.a_store_stands.Goals as goal

pub returns : goal.returns
returns c = record { example = example_stands }
