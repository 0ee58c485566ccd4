use Rattle.unit_contents.proofs.ConstantLaws.{AreAddedTo}
use Rattle.unit_contents.proofs.constants.add_constants.Given as goal

abbrev pub invariant-loop-position : goal.invariant-loop-position
invariant-loop-position l = AreAddedTo l.table l.text l.initial.constants.keys l.position l.constants.keys
