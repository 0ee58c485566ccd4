use Rattle.std.proofs.Common.{◌≡◌, take, drop}
use Rattle.std.specs.Vec.Iter.{into_iter_items}
use Rattle.fsplit.specs.split_pieces.Pieces.{texts_in}
use Rattle.piece_writer.proofs.WritingLemmas.{HasMade}
use Rattle.piece_writer.proofs.writing.write_pieces.Given as goal

abbrev pub invariant-loop-i : goal.invariant-loop-i
invariant-loop-i g l = record {
  left : into_iter_items l.i-iterator.iter ≡ drop l.i-iterator.count l.fn.names.items;
  made : HasMade (take l.i-iterator.count l.fn.names.items) (take l.i-iterator.count (texts_in l.pieces)) (g.H.Shelf.state l.fn.shelf) (g.H.Shelf.state l.shelf);
}
