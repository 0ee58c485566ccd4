use Rattle.std.proofs.Common.{◌≡◌, ◌++◌, take}
use Rattle.check_command.proofs.listing.with_names.Given as goal

abbrev pub invariant-loop-other : goal.invariant-loop-other
invariant-loop-other l = l.all ≡ l.initial.all ++ take l.other-index l.others
