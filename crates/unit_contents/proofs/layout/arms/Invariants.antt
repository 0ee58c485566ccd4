use Rattle.unit_contents.proofs.LayoutLaws.{AreArmsTo}
use Rattle.unit_contents.proofs.layout.arms.Given as goal

abbrev pub invariant-loop-position : goal.invariant-loop-position
invariant-loop-position l = AreArmsTo l.steps l.names l.position l.arms.items
