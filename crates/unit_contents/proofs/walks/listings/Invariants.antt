use Rattle.std.proofs.Common.{◌≡◌, map, ◌++◌, drop}
use Rattle.lowered_tree.specs.Shapes.{steps_of}
use Rattle.main_translation.specs.Contents.{listings_from}
use Rattle.unit_contents.specs.ContentsOf.{listing_of}
use Rattle.unit_contents.proofs.walks.listings.Given as goal

-- those so far, and those of the steps that are left
abbrev pub invariant-loop-position : goal.invariant-loop-position
invariant-loop-position l = map listing_of l.lists.items ++ listings_from l.position (steps_of (drop l.position l.steps)) ≡ listings_from 0 (steps_of l.steps)
