use Rattle.std.proofs.Common.{◌≡◌, ◌+◌, ◌-◌, ◌≤◌, [], drop, take, length}
use Rattle.command_words.specs.CommandWords.{first_other}
use Rattle.command_words.proofs.command.first_other.Given as goal

-- a translation goes on with the words up to here
abbrev pub invariant-loop-passed : goal.invariant-loop-passed
invariant-loop-passed l = (l.passed ≤ length l.words) × (first_other 1 [] l.words ≡ first_other (l.passed + 1) (take l.passed l.words) (drop l.passed l.words))

abbrev pub decreases-loop-passed : goal.decreases-loop-passed
decreases-loop-passed l = length l.words - l.passed
