use Rattle.std.proofs.Common.{◌-◌, length, drop, arith, sym, ◌∙◌, length-take, length-drop, subst}
use Rattle.f2c_outside.specs.Shelf.{IsWriting}
use Rattle.shelf_texts.proofs.Writing.{put_failed, put_moved}
use Rattle.shelf_texts.proofs.loops.put_all.Goals as goal

pub returns-in-Err-clause-err : goal.returns-in-Err-clause-err
returns-in-Err-clause-err g c =
    put_failed c.args.text.now c.loop-done.done (g.H.Shelf.state c.args.shelf.now) (g.H.Shelf.state c.loop-done.shelf)
    (g.H.Shelf.state c.put.new.self) c.in-Err.fault c.loop-done.invariant.put c.in-Err.ensures.cause c.in-Err.ensures.put

pub loop-done-preserved : goal.loop-done-preserved
loop-done-preserved g c =
    record {
      within =
          omega (arith, c.in-Ok.ensures.put.ok.fits, length-take (length c.args.text.now - c.loop-done.done) (drop c.loop-done.done c.args.text.now), length-drop c.loop-done.done c.args.text.now);
      put =
          put_moved c.args.text.now c.loop-done.done c.in-Ok.count (g.H.Shelf.state c.args.shelf.now)
          (g.H.Shelf.state c.loop-done.shelf) (g.H.Shelf.state c.put.new.self) c.loop-done.invariant.put
          c.in-Ok.ensures.cause c.in-Ok.ensures.put;
      quiet = c.in-Ok.ensures.cause.quiet ∙ c.loop-done.invariant.quiet;
      writing = subst IsWriting (sym c.in-Ok.ensures.put.active) c.loop-done.invariant.writing;
    }
