use Rattle.std.proofs.Common.{◌≡◌, ◌++◌, length, None}
use Rattle.fortran_text.specs.FirstFault.{too_long}
use Rattle.split_pieces.specs.Pieces.{pieces_of}
use Rattle.fsplit.proofs.cutting.pieces_of.Given as goal

abbrev pub invariant-loop-rest : goal.invariant-loop-rest
invariant-loop-rest l = record {
  start : pieces_of l.fn.bytes ≡ l.pieces ++ pieces_of l.rest;
  short : too_long l.rest ≡ None;
}

abbrev pub decreases-loop-rest : goal.decreases-loop-rest
decreases-loop-rest l = length l.rest
