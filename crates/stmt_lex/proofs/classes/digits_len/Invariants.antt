use Rattle.std.proofs.Common.{◌≡◌, ◌+◌, length}
use Rattle.std.specs.List.{prefix_len}
use Rattle.fortran_lexemes.specs.PiecesOfText.{is_digit}
use Rattle.stmt_lex.proofs.classes.digits_len.Given as goal

abbrev pub invariant-loop-rest : goal.invariant-loop-rest
invariant-loop-rest l = record {
  start : prefix_len is_digit l.fn.text ≡ l.passed + prefix_len is_digit l.rest;
  counted : l.passed + length l.rest ≡ length l.fn.text;
}

abbrev pub decreases-loop-rest : goal.decreases-loop-rest
decreases-loop-rest l = length l.rest
