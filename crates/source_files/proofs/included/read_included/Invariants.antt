use Rattle.std.proofs.Common.{length}
use Rattle.source_files.proofs.ReadLemmas.{IsReadSoFar}
use Rattle.source_files.proofs.included.read_included.Given as goal

abbrev pub invariant-loop-rest : goal.invariant-loop-rest
invariant-loop-rest g l = IsReadSoFar 16777217 l.names l.rest l.texts (g.H.Shelf.state l.initial.shelf) (g.H.Shelf.state l.shelf)

abbrev pub decreases-loop-rest : goal.decreases-loop-rest
decreases-loop-rest g l = length l.rest
