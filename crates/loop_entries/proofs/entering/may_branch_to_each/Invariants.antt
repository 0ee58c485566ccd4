use Rattle.std.proofs.Common.{◌≡◌, drop}
use Rattle.std.specs.List.{list_all}
use Rattle.f_tree.specs.Facts.{ProgramUnit}
use Rattle.lowering_laws.specs.Layout.{may_branch}
use Rattle.loop_entries.specs.Branches.{ArePlaces}
use Rattle.loop_entries.specs.LoopRanges.{AreRanges}
use Rattle.loop_entries.proofs.entering.may_branch_to_each.Given as goal

abbrev pub invariant-loop-label : goal.invariant-loop-label
invariant-loop-label l = (p : ProgramUnit) → AreRanges p l.ranges → ArePlaces p l.places → list_all (may_branch p l.from) l.labels ≡ list_all (may_branch p l.from) (drop l.label-index l.labels)
