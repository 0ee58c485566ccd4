use Rattle.std.proofs.Common.{◌≡◌, ◌-◌, ◌≤◌, map, take, length}
use Rattle.f2c_outside.specs.declared.shelves.Place.TheVariants.{File}
use Rattle.std.specs.List.{filter}
use Rattle.output_names.specs.OutputNames.{is_prototype_word}
use Rattle.output_names.proofs.places.prototypes_named.Given as goal

-- the places of the words up to here
abbrev pub invariant-loop-passed : goal.invariant-loop-passed
invariant-loop-passed l = (l.passed ≤ length l.words) × (l.places ≡ map File (filter is_prototype_word (take l.passed l.words)))

abbrev pub decreases-loop-passed : goal.decreases-loop-passed
decreases-loop-passed l = length l.words - l.passed
