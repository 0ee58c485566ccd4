use Rattle.std.proofs.Common.{◌≡◌, ◌+◌, ◌≤◌, length}
use Rattle.fortran_lexemes.specs.KindsOfStatements.{outside_parentheses}
use Rattle.stmt_lex.specs.CursorWalks.{left}
use Rattle.stmt_lex.proofs.kinds.next_outside.Given as goal

abbrev pub invariant-loop-c : goal.invariant-loop-c
invariant-loop-c l = record {
  start : outside_parentheses 0 (left l.fn.text) ≡ outside_parentheses l.depth (left l.rest);
  low : l.depth + length (left l.rest) ≤ length (left l.fn.text);
}

abbrev pub decreases-loop-c : goal.decreases-loop-c
decreases-loop-c l = length (left l.rest)
