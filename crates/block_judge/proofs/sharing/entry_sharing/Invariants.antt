use Rattle.std.proofs.Common.{◌≡◌, ◌++◌, drop}
use Rattle.block_judge.proofs.SharingLemmas.{sharing_of}
use Rattle.block_judge.proofs.sharing.entry_sharing.Given as goal

abbrev pub invariant-loop-statement : goal.invariant-loop-statement
invariant-loop-statement l = sharing_of l.unit l.statement-items ≡ l.shares.items ++ sharing_of l.unit (drop l.statement-index l.statement-items)
