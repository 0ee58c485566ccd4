use Rattle.unit_contents.proofs.TargetLaws.{AreNoted}
use Rattle.unit_contents.proofs.targets.targets.Given as goal

abbrev pub invariant-loop-position : goal.invariant-loop-position
invariant-loop-position l = AreNoted l.text l.position l.targets.items
