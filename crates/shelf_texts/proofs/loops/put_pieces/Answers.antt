use Rattle.std.proofs.Common.{[], sym, ◌∙◌, subst}
use Rattle.f2c_outside.specs.Shelf.{IsWriting}
use Rattle.shelf_texts.proofs.Writing.{put_piece, put_piece_failed}
use Rattle.shelf_texts.proofs.loops.put_pieces.Goals as goal

pub returns-in-Err-clause-err : goal.returns-in-Err-clause-err
returns-in-Err-clause-err g c =
    put_piece_failed (λ p. p.now) c.args.pieces.now c.loop-piece.piece-index (record { ref_ptr = (0, 0); now = [] })
    (g.H.Shelf.state c.args.shelf.now) (g.H.Shelf.state c.loop-piece.shelf) (g.H.Shelf.state c.put_all.new.shelf)
    c.loop-piece-test.true c.loop-piece.invariant.put c.in-Err.ensures.err

pub loop-piece-preserved : goal.loop-piece-preserved
loop-piece-preserved g c =
    record {
      put =
          put_piece (λ p. p.now) c.args.pieces.now c.loop-piece.piece-index (record { ref_ptr = (0, 0); now = [] })
          (g.H.Shelf.state c.args.shelf.now) (g.H.Shelf.state c.loop-piece.shelf) (g.H.Shelf.state c.put_all.new.shelf)
          c.loop-piece-test.true c.loop-piece.invariant.put c.in-Ok.ensures.ok;
      quiet = c.in-Ok.ensures.quiet ∙ c.loop-piece.invariant.quiet;
      writing = subst IsWriting (sym c.in-Ok.ensures.ok.active) c.loop-piece.invariant.writing;
    }
