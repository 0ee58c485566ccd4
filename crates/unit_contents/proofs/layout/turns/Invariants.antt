use Rattle.unit_contents.proofs.LayoutLaws.{AreTurnsTo}
use Rattle.unit_contents.proofs.layout.turns.Given as goal

abbrev pub invariant-loop-position : goal.invariant-loop-position
invariant-loop-position l = AreTurnsTo l.steps l.openings l.onces l.position l.turns.items
