use Rattle.std.proofs.Common.{◌≡◌, ◌+◌, length}
use Rattle.fortran_lexemes.specs.PiecesOfText.{constant_end}
use Rattle.stmt_lex.proofs.cuts.constant_end.Given as goal

abbrev pub invariant-loop-rest : goal.invariant-loop-rest
invariant-loop-rest l = record {
  start : constant_end 0 l.fn.text ≡ constant_end l.passed l.rest;
  counted : l.passed + length l.rest ≡ length l.fn.text;
}

abbrev pub decreases-loop-rest : goal.decreases-loop-rest
decreases-loop-rest l = length l.rest
