use Rattle.c_emit_laws.proofs.ComputedNumbers.{library_types_are_right}
use Rattle.c_emit_laws.proofs.TypeLaws.{types_are_right}
use Rattle.c_emit_laws.proofs.values.types_are_told.Goals as goal

pub returns : goal.returns
returns c = record { values = types_are_right; library = library_types_are_right }
