use Rattle.shelf_texts.proofs.Writing.{unwritten_at_stop}
use Rattle.shelf_texts.proofs.loops.write_place.Goals as goal

pub returns-in-Ok-put_all-clause-err : goal.returns-in-Ok-put_all-clause-err
returns-in-Ok-put_all-clause-err g c =
    unwritten_at_stop c.args.place.now c.args.text.now (g.H.Shelf.state c.args.shelf.now) (g.H.Shelf.state c.start_write.new.self)
    (g.H.Shelf.state c.put_all.new.shelf) (g.H.Shelf.state c.stop.new.self) c.stop.result c.in-Ok.ensures.started
    c.in-Ok.ensures.cause.later c.in-Ok-put_all.ensures.ok c.stop.ensures.cause c.stop.ensures.stopped
