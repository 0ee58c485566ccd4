use Rattle.std.proofs.Common.{◌≡◌, ◌++◌, drop}
use Rattle.fortran_lexemes.specs.KindsOfStatements.{outside_constants}
use Rattle.fsplit.proofs.texts.outside_constants.Given as goal

abbrev pub invariant-loop-character : goal.invariant-loop-character
invariant-loop-character l = outside_constants l.text ≡ l.marks ++ outside_constants (drop l.character-index l.text)
