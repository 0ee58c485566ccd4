use Rattle.std.proofs.Common.{◌≡◌, drop}
use Rattle.source_reader.specs.Limits.{count_in, first_passing}
use Rattle.source_reader.proofs.counts.first_passing.Given as goal

abbrev pub invariant-loop-file : goal.invariant-loop-file
invariant-loop-file l = first_passing (count_in l.counts) 0 l.files ≡ first_passing (count_in l.counts) l.file (drop l.file l.files)
