use Rattle.open_loops.specs.OpenRanges.{open_by}
use Rattle.open_loops.specs.PlacesAmong.{AreAround, ArePlacesUpTo}
use Rattle.open_loops.proofs.walk.places_between.Given as goal

abbrev pub invariant-loop-place : goal.invariant-loop-place
invariant-loop-place l = record {
  places : ArePlacesUpTo l.table l.statements l.ends l.place l.places.items;
  around : AreAround l.table l.statements (open_by l.ends l.place) l.around;
}
