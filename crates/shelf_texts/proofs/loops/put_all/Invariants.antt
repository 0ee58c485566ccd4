use Rattle.std.proofs.Common.{◌≡◌, length, take, ◌-◌, ◌≤◌}
use Rattle.f2c_outside.specs.Shelf.{IsWriting}
use Rattle.shelf_texts.specs.ShelfLoops.{HasPut}
use Rattle.shelf_texts.proofs.loops.put_all.Given as goal

abbrev pub invariant-loop-done : goal.invariant-loop-done
invariant-loop-done g l =
    record {
      within : l.done ≤ length l.text;
      put : HasPut (take l.done l.text) (g.H.Shelf.state l.initial.shelf) (g.H.Shelf.state l.shelf);
      quiet : (g.H.Shelf.state l.shelf).faults ≡ (g.H.Shelf.state l.initial.shelf).faults;
      writing : IsWriting (g.H.Shelf.state l.shelf).active;
    }

abbrev pub decreases-loop-done : goal.decreases-loop-done
decreases-loop-done g l = length l.text - l.done
