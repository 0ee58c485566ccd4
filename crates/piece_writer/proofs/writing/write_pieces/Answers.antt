use Rattle.std.proofs.Common.{◌+◌, ◌∙◌, ap, sym, subst, take, drop}
use Rattle.std.specs.Vec.Iter.{into_iter_items}
use Rattle.fsplit.specs.split_pieces.Pieces.{texts_in}
use Rattle.piece_writer.proofs.WritingLemmas.{HasMade, next_left, next_at, made_on, not_made}
use Rattle.piece_writer.proofs.writing.write_pieces.Goals as goal

pub returns-in-Err-clause-err : goal.returns-in-Err-clause-err
returns-in-Err-clause-err g c =
    let names = c.args.names.items in
    let texts = texts_in c.args.pieces.now in
    let n = c.loop-i.i-iterator.count in
    let rest = into_iter_items c.next.new.self.iter in
    let steps = c.in-Some.ensures.steps in
    not_made names texts n c.in-Some.name c.piece.result.now rest (drop (n + 1) texts) c.in-Err.place (g.H.Shelf.state c.args.shelf.now) (g.H.Shelf.state c.loop-i.shelf)
    (g.H.Shelf.state c.write_file.new.shelf) c.requires.apart
    (next_left names (into_iter_items c.loop-i.i-iterator.iter) rest n c.in-Some.name c.loop-i.invariant.left steps.0.0)
    (next_at texts c.in-Some.i n c.piece.result.now steps.1 c.piece.ensures) c.loop-i.invariant.made c.in-Err.ensures.err

pub loop-i-preserved : goal.loop-i-preserved
loop-i-preserved g c =
    let names = c.args.names.items in
    let texts = texts_in c.args.pieces.now in
    let n = c.loop-i.i-iterator.count in
    let rest = into_iter_items c.next.new.self.iter in
    let steps = c.in-Some.ensures.steps in
    let next = next_left names (into_iter_items c.loop-i.i-iterator.iter) rest n c.in-Some.name c.loop-i.invariant.left steps.0.0 in
    let next_text = next_at texts c.in-Some.i n c.piece.result.now steps.1 c.piece.ensures in
    record {
      left = sym (ap (λ k. drop k names) steps.2 ∙ next.left);
      made =
          subst (λ k. HasMade (take k names) (take k texts) (g.H.Shelf.state c.args.shelf.now) (g.H.Shelf.state c.write_file.new.shelf)) (sym steps.2)
          (made_on names texts n c.in-Some.name c.piece.result.now rest (drop (n + 1) texts) (g.H.Shelf.state c.args.shelf.now) (g.H.Shelf.state c.loop-i.shelf)
          (g.H.Shelf.state c.write_file.new.shelf) c.requires.apart next next_text c.loop-i.invariant.made c.in-Ok.ensures.ok);
    }
