use Rattle.unit_contents.proofs.OutputLaws.{AreInPlaceTo}
use Rattle.unit_contents.proofs.outputs.are_in_place.Given as goal

abbrev pub invariant-loop-position : goal.invariant-loop-position
invariant-loop-position l = AreInPlaceTo l.table l.text l.position l.stage
