use Rattle.std.proofs.Common.{◌≡◌, ◌++◌, drop, None}
use Rattle.fortran_text.specs.declared.characters.Standing.TheVariants.{Outside}
use Rattle.stmt_lex.specs.PlacesOfTokens.{places_from}
use Rattle.stmt_lex.proofs.places.places_counting.Given as goal

abbrev pub invariant-loop-at : goal.invariant-loop-at
invariant-loop-at l = places_from l.counts (Outside None) 0 l.text ≡ l.found ++ places_from l.counts l.standing l.at (drop l.at l.text)
