use Rattle.std.proofs.Common.{◌≡◌, ◌+◌, ◌≤◌, length}
use Rattle.fortran_lexemes.specs.KindsOfStatements.{after_parentheses}
use Rattle.stmt_lex.specs.CursorWalks.{left}
use Rattle.stmt_lex.proofs.kinds.after_parentheses.Given as goal

abbrev pub invariant-loop-depth : goal.invariant-loop-depth
invariant-loop-depth l = record {
  start : after_parentheses 1 (left l.fn.text) ≡ after_parentheses l.depth (left l.rest);
  low : l.depth + length (left l.rest) ≤ length (left l.fn.text) + 1;
}

abbrev pub decreases-loop-depth : goal.decreases-loop-depth
decreases-loop-depth l = length (left l.rest)
