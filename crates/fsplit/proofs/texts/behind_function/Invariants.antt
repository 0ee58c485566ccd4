use Rattle.std.proofs.Common.{◌≡◌, ◌+◌, ◌≤◌, length}
use Rattle.split_pieces.specs.WantedNames.{behind_function}
use Rattle.fsplit.proofs.texts.behind_function.Given as goal

abbrev pub invariant-loop-rest : goal.invariant-loop-rest
invariant-loop-rest l = record {
  start : behind_function 0 l.fn.text ≡ behind_function l.depth l.rest;
  low : l.depth + length l.rest ≤ length l.fn.text;
}

abbrev pub decreases-loop-rest : goal.decreases-loop-rest
decreases-loop-rest l = length l.rest
