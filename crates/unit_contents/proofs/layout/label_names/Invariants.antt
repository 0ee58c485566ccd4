use Rattle.unit_contents.proofs.LayoutLaws.{AreNamedTo}
use Rattle.unit_contents.proofs.layout.label_names.Given as goal

abbrev pub invariant-loop-position : goal.invariant-loop-position
invariant-loop-position l = AreNamedTo l.text l.position l.names.items
