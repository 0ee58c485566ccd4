use Rattle.std.proofs.Common.{length}
use Rattle.file_parse.specs.Splices.{cards_named}
use Rattle.file_parse.proofs.SpliceLemmas.{SplicingFiles}
use Rattle.file_parse.proofs.splices.splice_files.Given as goal

abbrev pub invariant-loop-file : goal.invariant-loop-file
invariant-loop-file l = SplicingFiles (cards_named l.places) l.fn.files l.waiting l.done

abbrev pub decreases-loop-file : goal.decreases-loop-file
decreases-loop-file l = length l.waiting
