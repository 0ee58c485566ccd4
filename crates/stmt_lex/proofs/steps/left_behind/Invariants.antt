use Rattle.std.proofs.Common.{◌≡◌, ◌+◌, ◌≤◌, length}
use Rattle.fortran_lexemes.specs.PiecesOfStatements.{left_behind}
use Rattle.stmt_lex.proofs.steps.left_behind.Given as goal

abbrev pub invariant-loop-depth : goal.invariant-loop-depth
invariant-loop-depth l = record {
  start : left_behind 1 l.fn.text ≡ left_behind l.depth l.rest;
  low : l.depth + length l.rest ≤ length l.fn.text + 1;
}

abbrev pub decreases-loop-depth : goal.decreases-loop-depth
decreases-loop-depth l = length l.rest
