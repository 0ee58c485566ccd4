use Rattle.std.proofs.Common.{◌≡◌, take, map}
use Rattle.f2c_outside.specs.Shelf.{IsWriting}
use Rattle.shelf_texts.specs.ShelfLoops.{joined}
use Rattle.shelf_texts.specs.ShelfLoops.{HasPut}
use Rattle.shelf_texts.proofs.loops.put_pieces.Given as goal

abbrev pub invariant-loop-piece : goal.invariant-loop-piece
invariant-loop-piece g l =
    record {
      put : HasPut (joined (take l.piece-index (map (λ p. p.now) l.pieces))) (g.H.Shelf.state l.initial.shelf) (g.H.Shelf.state l.shelf);
      quiet : (g.H.Shelf.state l.shelf).faults ≡ (g.H.Shelf.state l.initial.shelf).faults;
      writing : IsWriting (g.H.Shelf.state l.shelf).active;
    }
