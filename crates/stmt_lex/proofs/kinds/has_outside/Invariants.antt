use Rattle.std.proofs.Common.{◌≡◌, length}
use Rattle.std.specs.Prelude.{◌==◌}
use Rattle.std.specs.List.{list_any}
use Rattle.fortran_lexemes.specs.KindsOfStatements.{outside_parentheses}
use Rattle.stmt_lex.specs.CursorWalks.{left}
use Rattle.stmt_lex.proofs.kinds.has_outside.Given as goal

abbrev pub invariant-loop-c : goal.invariant-loop-c
invariant-loop-c l =
    list_any (λ c. c == l.wanted) (outside_parentheses 0 (left l.fn.text)) ≡ list_any (λ c. c == l.wanted) (outside_parentheses 0 (left l.rest))

abbrev pub decreases-loop-c : goal.decreases-loop-c
decreases-loop-c l = length (outside_parentheses 0 (left l.rest))
