use Rattle.std.proofs.Common.{◌≡◌, take}
use Rattle.statement_lowering.proofs.copies.+copy.Given as goal

abbrev pub invariant-copy_all-loop-value : goal.invariant-copy_all-loop-value
invariant-copy_all-loop-value l = l.copied ≡ take l.value-index l.values
