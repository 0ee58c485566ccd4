use Rattle.std.proofs.Common.{take}
use Rattle.source_files.specs.SourceReads.{ArePlacesRead}
use Rattle.source_files.proofs.places.read_places.Given as goal

-- the places up to here were read
abbrev pub invariant-loop-place : goal.invariant-loop-place
invariant-loop-place g l = ArePlacesRead l.most (take l.place-index l.places) l.texts (g.H.Shelf.state l.initial.shelf) (g.H.Shelf.state l.shelf)
