use Rattle.std.proofs.Common.{◌≡◌, ◌≤◌, length}
use Rattle.stmt_lex.specs.Cursors.{outside_from}
use Rattle.stmt_lex.proofs.cursor.first_written.Given as goal

abbrev pub invariant-loop-rest : goal.invariant-loop-rest
invariant-loop-rest l = record {
  start : outside_from l.counts l.fn.standing l.fn.text ≡ outside_from l.counts l.standing l.rest;
  fits : length l.rest ≤ length l.fn.text;
}

abbrev pub decreases-loop-rest : goal.decreases-loop-rest
decreases-loop-rest l = length l.rest
