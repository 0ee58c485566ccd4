use Rattle.std.proofs.Common.{map, ◌++◌}
use Rattle.shelf_texts.specs.ShelfLoops.{joined}
use Rattle.shelf_texts.proofs.Lines.{said_front, second_failed, said_two}
use Rattle.shelf_texts.proofs.loops.say_two.Goals as goal

pub returns-in-Err-put_pieces-2 : goal.returns-in-Err-put_pieces-2
returns-in-Err-put_pieces-2 g c =
    said_front (joined (map (λ p. p.now) c.args.first.now) ++ joined (map (λ p. p.now) c.args.second.now)) (g.H.Shelf.state c.args.shelf.now)
    (g.H.Shelf.state c.start_write.new.self) (g.H.Shelf.state c.put_pieces-2.new.shelf) c.in-Ok.ensures.started c.in-Ok.ensures.cause.later
    (second_failed (joined (map (λ p. p.now) c.args.first.now)) (joined (map (λ p. p.now) c.args.second.now)) (g.H.Shelf.state c.start_write.new.self)
    (g.H.Shelf.state c.put_pieces.new.shelf) (g.H.Shelf.state c.put_pieces-2.new.shelf) c.in-Ok-put_pieces.ensures.ok c.in-Err-put_pieces-2.ensures.err)

pub returns : goal.returns
returns g c =
    said_two (joined (map (λ p. p.now) c.args.first.now)) (joined (map (λ p. p.now) c.args.second.now)) (g.H.Shelf.state c.args.shelf.now)
    (g.H.Shelf.state c.start_write.new.self) (g.H.Shelf.state c.put_pieces.new.shelf) (g.H.Shelf.state c.put_pieces-2.new.shelf) (g.H.Shelf.state c.stop.new.self)
    c.in-Ok.ensures.started c.in-Ok.ensures.cause.later c.in-Ok-put_pieces.ensures.ok c.in-Ok-put_pieces-2.ensures.ok c.stop.ensures.cause.later c.stop.ensures.stopped.same
