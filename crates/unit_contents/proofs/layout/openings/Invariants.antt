use Rattle.unit_contents.proofs.LayoutLaws.{AreOpenedTo}
use Rattle.unit_contents.proofs.layout.openings.Given as goal

abbrev pub invariant-loop-marked : goal.invariant-loop-marked
invariant-loop-marked l = AreOpenedTo l.text l.once l.marked-index l.openings.items
