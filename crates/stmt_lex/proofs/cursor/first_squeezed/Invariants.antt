use Rattle.std.proofs.Common.{◌≡◌, length}
use Rattle.fortran_lexemes.specs.KindsOfStatements.{outside_constants}
use Rattle.stmt_lex.proofs.cursor.first_squeezed.Given as goal

abbrev pub invariant-loop-rest : goal.invariant-loop-rest
invariant-loop-rest l = outside_constants l.fn.text ≡ outside_constants l.rest

abbrev pub decreases-loop-rest : goal.decreases-loop-rest
decreases-loop-rest l = length l.rest
