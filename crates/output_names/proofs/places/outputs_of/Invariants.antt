use Rattle.std.proofs.Common.{◌≡◌, ◌-◌, ◌≤◌, take, length}
use Rattle.std.specs.List.{flat_map}
use Rattle.output_names.specs.WordPlaces.{file_words, word_outputs}
use Rattle.output_names.proofs.places.outputs_of.Given as goal

-- the places of the words up to here
abbrev pub invariant-loop-passed : goal.invariant-loop-passed
invariant-loop-passed l = (l.passed ≤ length l.words) × (l.places ≡ flat_map (word_outputs l.prototypes) (file_words (take l.passed l.words)))

abbrev pub decreases-loop-passed : goal.decreases-loop-passed
decreases-loop-passed l = length l.words - l.passed
