use Rattle.std.proofs.Common.{◌≡◌, drop}
use Rattle.loop_entries.specs.Branches.{label_among}
use Rattle.loop_entries.proofs.branches.label_among.Given as goal

abbrev pub invariant-loop-control : goal.invariant-loop-control
invariant-loop-control l = label_among l.at_end l.controls ≡ label_among l.at_end (drop l.control-index l.controls)
