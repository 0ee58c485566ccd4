use Rattle.std.proofs.Common.{take}
use Rattle.offset_classes.specs.Standing.{links_of}
use Rattle.offset_classes.specs.Forest.{IsSolving}
use Rattle.offset_classes.proofs.solving.tie_all.Given as goal

abbrev pub invariant-loop-at : goal.invariant-loop-at
invariant-loop-at l = IsSolving (links_of (take l.at l.equations)) l.nodes l.at
