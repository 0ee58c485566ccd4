use Rattle.std.proofs.Common.{◌≡◌}
use Rattle.piece_names.specs.Asking.{OnlyAsked}
use Rattle.piece_names.proofs.AskingLemmas.{FreeFrom}
use Rattle.piece_names.proofs.choosing.first_free.Given as goal

abbrev pub invariant-loop-number : goal.invariant-loop-number
invariant-loop-number g l = record {
  asked : OnlyAsked (g.H.Shelf.state l.fn.shelf) (g.H.Shelf.state l.shelf);
  quiet : (g.H.Shelf.state l.shelf).faults ≡ (g.H.Shelf.state l.fn.shelf).faults;
  free : FreeFrom (g.H.Shelf.state l.fn.shelf).told l.taken l.prefix 1000 l.number;
}
