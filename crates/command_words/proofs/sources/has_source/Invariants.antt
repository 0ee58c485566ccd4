use Rattle.std.proofs.Common.{◌≡◌, ◌-◌, ◌≤◌, false, take, length}
use Rattle.std.specs.List.{list_any}
use Rattle.output_names.specs.OutputNames.{is_file_word}
use Rattle.command_words.proofs.sources.has_source.Given as goal

-- none of the words up to here names a FORTRAN file
abbrev pub invariant-loop-passed : goal.invariant-loop-passed
invariant-loop-passed l = (l.passed ≤ length l.words) × (list_any is_file_word (take l.passed l.words) ≡ false)

abbrev pub decreases-loop-passed : goal.decreases-loop-passed
decreases-loop-passed l = length l.words - l.passed
