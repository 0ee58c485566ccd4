use Rattle.std.proofs.Common.{◌≡◌, length, bytes_eq}
use Rattle.std.specs.List.{IsDistinct}
use Rattle.piece_names.specs.Asking.{OnlyAsked}
use Rattle.piece_choice.proofs.ChoiceLemmas.{Ahead}
use Rattle.piece_choice.proofs.choosing.choose_names.Given as goal

abbrev pub invariant-loop-place : goal.invariant-loop-place
invariant-loop-place g l = record {
  asked : OnlyAsked (g.H.Shelf.state l.fn.shelf) (g.H.Shelf.state l.shelf);
  quiet : (g.H.Shelf.state l.shelf).faults ≡ (g.H.Shelf.state l.fn.shelf).faults;
  counted : length l.names.items ≡ l.place;
  ahead : Ahead (g.H.Shelf.state l.fn.shelf).told l.pieces l.names.items l.place;
  apart : IsDistinct bytes_eq l.names.items;
}
