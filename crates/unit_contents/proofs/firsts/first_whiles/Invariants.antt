use Rattle.unit_contents.proofs.FirstLaws.{AreCountedTo}
use Rattle.unit_contents.proofs.firsts.first_whiles.Given as goal

abbrev pub invariant-loop-number : goal.invariant-loop-number
invariant-loop-number l = AreCountedTo l.text l.number l.firsts.items
