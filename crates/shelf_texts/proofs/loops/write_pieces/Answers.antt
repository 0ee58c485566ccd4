use Rattle.std.proofs.Common.{map}
use Rattle.shelf_texts.specs.ShelfLoops.{joined}
use Rattle.shelf_texts.proofs.Writing.{unwritten_at_stop}
use Rattle.shelf_texts.proofs.loops.write_pieces.Goals as goal

pub returns-in-Ok-put_pieces-clause-err : goal.returns-in-Ok-put_pieces-clause-err
returns-in-Ok-put_pieces-clause-err g c =
    unwritten_at_stop c.args.place.now (joined (map (λ p. p.now) c.args.pieces.now)) (g.H.Shelf.state c.args.shelf.now)
    (g.H.Shelf.state c.start_write.new.self) (g.H.Shelf.state c.put_pieces.new.shelf) (g.H.Shelf.state c.stop.new.self)
    c.stop.result c.in-Ok.ensures.started c.in-Ok.ensures.cause.later c.in-Ok-put_pieces.ensures.ok c.stop.ensures.cause
    c.stop.ensures.stopped
