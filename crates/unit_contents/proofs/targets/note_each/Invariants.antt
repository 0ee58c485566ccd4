use Rattle.std.proofs.Common.{suc}
use Rattle.unit_contents.proofs.TargetLaws.{AreNotedFrom}
use Rattle.unit_contents.proofs.targets.note_each.Given as goal

abbrev pub invariant-loop-passed : goal.invariant-loop-passed
invariant-loop-passed l = AreNotedFrom (suc (suc l.position)) l.count l.initial.table l.passed l.table
