use Rattle.std.proofs.Common.{◌≡◌, ◌-◌, ◌≤◌, false, take, length}
use Rattle.std.specs.List.{list_any}
use Rattle.command_words.specs.CommandWords.{is_prototype_option}
use Rattle.command_words.proofs.sources.has_asking.Given as goal

-- none of the words up to here asks for prototypes
abbrev pub invariant-loop-passed : goal.invariant-loop-passed
invariant-loop-passed l = (l.passed ≤ length l.words) × (list_any is_prototype_option (take l.passed l.words) ≡ false)

abbrev pub decreases-loop-passed : goal.decreases-loop-passed
decreases-loop-passed l = length l.words - l.passed
