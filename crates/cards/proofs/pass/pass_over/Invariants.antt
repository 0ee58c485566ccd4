use Rattle.std.proofs.Common.{length}
use Rattle.cards.proofs.PassLemmas.{Passing}
use Rattle.cards.proofs.pass.pass_over.Given as goal

abbrev pub invariant-loop-alloc : goal.invariant-loop-alloc
invariant-loop-alloc l = Passing l.file l.refused l.bytes l.group l.fault l.cards l.rest

abbrev pub decreases-loop-alloc : goal.decreases-loop-alloc
decreases-loop-alloc l = length l.rest
