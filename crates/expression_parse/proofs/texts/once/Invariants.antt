-- What was taken stands before what the rest is.
use Rattle.std.proofs.Common.{◌≡◌, ◌++◌, length}
use Rattle.fortran_lexemes.specs.PiecesOfText.{undoubled}
use Rattle.expression_parse.proofs.texts.once.Given as goal

abbrev pub invariant-loop-rest : goal.invariant-loop-rest
invariant-loop-rest l = undoubled l.text ≡ l.found ++ undoubled l.rest

abbrev pub decreases-loop-rest : goal.decreases-loop-rest
decreases-loop-rest l = length l.rest
