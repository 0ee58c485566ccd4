use Rattle.std.proofs.Common.{◌≡◌, ◌+◌, ◌-◌, drop, length}
use Rattle.run_words.specs.RunWords.{nothing_asked, asked_by, first_other}
use Rattle.run_words.proofs.request.read_words.Given as goal

-- a run goes on with the words behind the first up to here
abbrev pub invariant-loop-passed : goal.invariant-loop-passed
invariant-loop-passed l =
    (asked_by nothing_asked (drop 1 l.words) ≡ asked_by l.request (drop l.passed l.words))
    × (first_other 2 nothing_asked (drop 1 l.words) ≡ first_other (l.passed + 1) l.request (drop l.passed l.words))

abbrev pub decreases-loop-passed : goal.decreases-loop-passed
decreases-loop-passed l = length l.words - l.passed
