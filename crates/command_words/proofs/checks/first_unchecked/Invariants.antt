use Rattle.std.proofs.Common.{◌≡◌, ◌+◌, ◌-◌, drop, length}
use Rattle.command_words.specs.CommandWords.{first_unchecked}
use Rattle.command_words.proofs.checks.first_unchecked.Given as goal

-- a check goes on with the words behind the first up to here
abbrev pub invariant-loop-passed : goal.invariant-loop-passed
invariant-loop-passed l = first_unchecked 2 (drop 1 l.words) ≡ first_unchecked (l.passed + 1) (drop l.passed l.words)

abbrev pub decreases-loop-passed : goal.decreases-loop-passed
decreases-loop-passed l = length l.words - l.passed
