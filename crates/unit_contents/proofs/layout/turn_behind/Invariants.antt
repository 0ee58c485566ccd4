use Rattle.unit_contents.proofs.LayoutLaws.{IsSought}
use Rattle.unit_contents.proofs.layout.turn_behind.Given as goal

abbrev pub invariant-loop-count : goal.invariant-loop-count
invariant-loop-count l = IsSought l.steps l.count
