use Rattle.offset_classes.specs.Forest.{AreSingle}
use Rattle.offset_classes.proofs.solving.singles.Given as goal

abbrev pub invariant-loop-number : goal.invariant-loop-number
invariant-loop-number l = AreSingle l.number l.nodes.items
