use Rattle.unit_contents.proofs.KindLaws.{AreKindsTo}
use Rattle.unit_contents.proofs.kinds.kinds.Given as goal

abbrev pub invariant-loop-position : goal.invariant-loop-position
invariant-loop-position l = AreKindsTo l.table l.text l.position l.kinds.items
