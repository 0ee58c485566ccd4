use Rattle.std.proofs.Common.{◌≡◌, ◌≤◌, ℕ, List, length, drop}
use Rattle.source_reader.specs.Limits.{first_named, value_named}
use Rattle.source_reader.proofs.counts.by_name.Given as goal

abbrev pub invariant-loop-left : goal.invariant-loop-left
invariant-loop-left g l =
    (l.left ≤ length l.names) × ((name : List ℕ) → value_named l.map name ≡ first_named (drop l.left l.names) (drop l.left l.values) name)

abbrev pub decreases-loop-left : goal.decreases-loop-left
decreases-loop-left g l = l.left
