use Rattle.std.proofs.Common.{◌≡◌, length}
use Rattle.fortran_lexemes.specs.KindsOfStatements.{behind_equals, outside_parentheses}
use Rattle.stmt_lex.specs.CursorWalks.{left}
use Rattle.stmt_lex.proofs.kinds.behind_equals.Given as goal

abbrev pub invariant-loop-c : goal.invariant-loop-c
invariant-loop-c l = behind_equals (outside_parentheses 0 (left l.fn.text)) ≡ behind_equals (outside_parentheses 0 (left l.rest))

abbrev pub decreases-loop-c : goal.decreases-loop-c
decreases-loop-c l = length (outside_parentheses 0 (left l.rest))
