use Rattle.std.proofs.Common.{◌≡◌, ◌-◌, ◌≤◌, false, take}
use Rattle.output_names.specs.OutputNames.{have_one_output}
use Rattle.std.specs.List.{list_any}
use Rattle.command_words.proofs.command.is_taken.Given as goal

-- none of the words up to here is one
abbrev pub invariant-loop-passed : goal.invariant-loop-passed
invariant-loop-passed l = (l.passed ≤ l.count) × (list_any (have_one_output l.word) (take l.passed l.words) ≡ false)

abbrev pub decreases-loop-passed : goal.decreases-loop-passed
decreases-loop-passed l = l.count - l.passed
