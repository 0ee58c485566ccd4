use Rattle.std.proofs.Common.{◌≡◌, ◌<◌, ◌^◌, drop}
use Rattle.source_reader.specs.Limits.{count_in, passes}
use Rattle.source_reader.proofs.counts.passes.Given as goal

abbrev pub invariant-loop-statement : goal.invariant-loop-statement
invariant-loop-statement l =
    (passes (count_in l.counts) l.cards.cards l.cards.statements ≡ passes (count_in l.counts) l.sum (drop l.statement-index l.statement-items)) × (l.sum < 2 ^ 32)
