use Rattle.std.proofs.Common.{◌≡◌, ◌++◌, drop}
use Rattle.lowered_tree.specs.Shapes.{steps_of}
use Rattle.main_translation.specs.main_file.MainItems.{stops_from}
use Rattle.unit_contents.proofs.walks.string_positions.Given as goal

-- those so far, and those of the steps that are left
abbrev pub invariant-loop-position : goal.invariant-loop-position
invariant-loop-position l = l.positions.items ++ stops_from l.position (steps_of (drop l.position l.steps)) ≡ stops_from 0 (steps_of l.steps)
