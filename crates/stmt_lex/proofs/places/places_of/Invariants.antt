use Rattle.std.proofs.Common.{◌≡◌, ◌++◌, drop, map}
use Rattle.stmt_lex.specs.PlacesOfTokens.{place_of}
use Rattle.stmt_lex.proofs.places.places_of.Given as goal

abbrev pub invariant-loop-extent : goal.invariant-loop-extent
invariant-loop-extent l = map (place_of l.places) l.extents ≡ l.found ++ map (place_of l.places) (drop l.extent-index l.extents)
