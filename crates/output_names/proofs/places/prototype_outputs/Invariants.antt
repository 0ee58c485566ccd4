use Rattle.std.proofs.Common.{◌≡◌, ◌-◌, ◌≤◌, map, take, length}
use Rattle.f2c_outside.specs.declared.shelves.Place.TheVariants.{File}
use Rattle.output_names.specs.OutputNames.{prototype_output}
use Rattle.output_names.specs.WordPlaces.{file_words}
use Rattle.output_names.proofs.places.prototype_outputs.Given as goal

-- the places of the words up to here
abbrev pub invariant-loop-passed : goal.invariant-loop-passed
invariant-loop-passed l = (l.passed ≤ length l.words) × (l.places ≡ map (λ word. File (prototype_output word)) (file_words (take l.passed l.words)))

abbrev pub decreases-loop-passed : goal.decreases-loop-passed
decreases-loop-passed l = length l.words - l.passed
