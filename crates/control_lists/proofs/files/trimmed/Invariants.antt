use Rattle.std.proofs.Common.{◌≡◌, ◌≤◌, length, take}
use Rattle.c_tree.specs.LibraryUnits.{trimmed}
use Rattle.control_lists.proofs.files.trimmed.Given as goal

-- blanks stand from the end on
abbrev pub invariant-loop-end : goal.invariant-loop-end
invariant-loop-end l = record { within : l.end ≤ length l.name; blank : trimmed l.name ≡ trimmed (take l.end l.name) }

abbrev pub decreases-loop-end : goal.decreases-loop-end
decreases-loop-end l = l.end
