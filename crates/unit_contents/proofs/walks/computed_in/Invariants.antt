use Rattle.std.proofs.Common.{◌≡◌, map, ◌++◌, drop}
use Rattle.lowered_tree.specs.Shapes.{steps_of}
use Rattle.library_functions.specs.Described.{described}
use Rattle.unit_contents.specs.ContentsOf.{computed_in}
use Rattle.unit_contents.proofs.walks.computed_in.Given as goal

-- those so far, and those of the functions that are left
abbrev pub invariant-loop-one : goal.invariant-loop-one
invariant-loop-one l =
    map described l.found.items ++ computed_in (steps_of l.steps) (map described (drop l.one-index l.functions)) ≡ computed_in (steps_of l.steps) (map described l.functions)
