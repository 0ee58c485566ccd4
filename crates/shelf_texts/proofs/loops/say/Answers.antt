use Rattle.std.proofs.Common.{map}
use Rattle.shelf_texts.specs.ShelfLoops.{joined}
use Rattle.shelf_texts.proofs.Writing.{said_whole}
use Rattle.shelf_texts.proofs.loops.say.Goals as goal

pub returns : goal.returns
returns g c =
    said_whole (joined (map (λ p. p.now) c.args.pieces.now)) (g.H.Shelf.state c.args.shelf.now)
    (g.H.Shelf.state c.start_write.new.self) (g.H.Shelf.state c.put_pieces.new.shelf) (g.H.Shelf.state c.stop.new.self)
    c.in-Ok.ensures.started c.in-Ok.ensures.cause.later c.in-Ok-put_pieces.ensures.ok c.stop.ensures.cause.later
    c.stop.ensures.stopped.same
