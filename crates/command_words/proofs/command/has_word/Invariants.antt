use Rattle.std.proofs.Common.{◌≡◌, ◌-◌, ◌≤◌, false, take, length}
use Rattle.std.specs.Prelude.{bytes_eq}
use Rattle.std.specs.List.{list_any}
use Rattle.command_words.proofs.command.has_word.Given as goal

-- none of the words up to here is one
abbrev pub invariant-loop-passed : goal.invariant-loop-passed
invariant-loop-passed l = (l.passed ≤ length l.words) × (list_any (bytes_eq l.word) (take l.passed l.words) ≡ false)

abbrev pub decreases-loop-passed : goal.decreases-loop-passed
decreases-loop-passed l = length l.words - l.passed
