use Rattle.std.proofs.Common.{length}
use Rattle.file_parse.specs.Splices.{cards_named}
use Rattle.file_parse.proofs.SpliceLemmas.{SplicingUnits}
use Rattle.file_parse.proofs.splices.units_with_parts.Given as goal

abbrev pub invariant-loop-unit : goal.invariant-loop-unit
invariant-loop-unit l = SplicingUnits (cards_named l.places) l.fn.units l.waiting l.done

abbrev pub decreases-loop-unit : goal.decreases-loop-unit
decreases-loop-unit l = length l.waiting
