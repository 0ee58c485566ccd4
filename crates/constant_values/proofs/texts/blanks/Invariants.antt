use Rattle.std.proofs.Common.{◌≡◌, replicate}
use Rattle.constant_values.proofs.texts.blanks.Given as goal

abbrev pub invariant-loop-made : goal.invariant-loop-made
invariant-loop-made l = l.spaces ≡ replicate l.made 32
