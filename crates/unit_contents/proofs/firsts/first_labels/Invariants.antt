use Rattle.unit_contents.proofs.FirstLaws.{ArePutTo}
use Rattle.unit_contents.proofs.firsts.first_labels.Given as goal

abbrev pub invariant-loop-label : goal.invariant-loop-label
invariant-loop-label l = ArePutTo l.text l.label-index l.firsts.items
