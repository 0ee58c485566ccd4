use Rattle.c_emit_laws.proofs.NumberLaws.{numbers_are_emitted, places_are_emitted}
use Rattle.c_emit_laws.proofs.values.numbers_are_emitted.Goals as goal

pub returns : goal.returns
returns c = record { values = numbers_are_emitted; places = places_are_emitted }
