use Rattle.offset_classes.specs.Forest.{ArePlaces}
use Rattle.offset_classes.proofs.solving.places.Given as goal

abbrev pub invariant-loop-number : goal.invariant-loop-number
invariant-loop-number l = ArePlaces l.number l.nodes l.places.items
