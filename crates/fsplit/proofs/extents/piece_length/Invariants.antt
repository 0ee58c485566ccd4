use Rattle.std.proofs.Common.{◌≡◌, ◌-◌, ◌≤◌, length, take, drop}
use Rattle.split_pieces.specs.Pieces.{before_pieces, texts_of}
use Rattle.fsplit.proofs.extents.piece_length.Given as goal

abbrev pub invariant-loop-passed : goal.invariant-loop-passed
invariant-loop-passed l = record {
  begun : texts_of l.text ≡ before_pieces (take l.passed l.text) (texts_of (drop l.passed l.text));
  within : l.passed ≤ length l.text;
}

abbrev pub decreases-loop-passed : goal.decreases-loop-passed
decreases-loop-passed l = length l.text - l.passed
