use Rattle.std.proofs.Common.{vec_len, ◌-◌, ◌≤◌, []}
use Rattle.f2c_outside.specs.Shelf.{IsReading}
use Rattle.shelf_texts.specs.ShelfLoops.{HasTaken}
use Rattle.shelf_texts.proofs.loops.take_all.Given as goal

abbrev pub invariant-loop-shelf : goal.invariant-loop-shelf
invariant-loop-shelf g l =
    record {
      within : vec_len l.bytes ≤ l.most;
      taken : HasTaken (g.H.Shelf.state l.initial.shelf) (g.H.Shelf.state l.shelf) [] l.bytes.items;
      reading : IsReading (g.H.Shelf.state l.shelf).active;
    }

abbrev pub decreases-loop-shelf : goal.decreases-loop-shelf
decreases-loop-shelf g l = l.most - vec_len l.bytes
