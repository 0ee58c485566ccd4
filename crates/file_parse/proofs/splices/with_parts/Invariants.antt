use Rattle.std.proofs.Common.{length}
use Rattle.file_parse.specs.Splices.{cards_named}
use Rattle.file_parse.proofs.SpliceLemmas.{Splicing}
use Rattle.file_parse.proofs.splices.with_parts.Given as goal

abbrev pub invariant-loop-statement : goal.invariant-loop-statement
invariant-loop-statement l = Splicing (cards_named l.places) l.fn.statements l.waiting l.done

abbrev pub decreases-loop-statement : goal.decreases-loop-statement
decreases-loop-statement l = length l.waiting
