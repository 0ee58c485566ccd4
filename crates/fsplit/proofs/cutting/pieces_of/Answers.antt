use Rattle.std.proofs.Common.{◌≡◌, ◌++◌, sym, subst, None}
use Rattle.std.proofs.lemmas.List.{take_rest}
use Rattle.fortran_text.specs.FirstFault.{too_long}
use Rattle.split_pieces.specs.Pieces.{pieces_of}
use Rattle.fsplit.proofs.LimitLemmas.{short_front, short_rest}
use Rattle.fsplit.proofs.PieceLemmas.{pieces_on, pieces_end, is_none}
use Rattle.fsplit.proofs.cutting.pieces_of.Goals as goal

pub wanted_of-requires : goal.wanted_of-requires
wanted_of-requires c = short_front c.piece_length-length.result c.loop-rest.rest.now c.loop-rest.invariant.short

pub loop-rest-preserved : goal.loop-rest-preserved
loop-rest-preserved c =
    let rest = c.loop-rest.rest.now in
    let n = c.piece_length-length.result in
    record {
      start = subst (λ r. pieces_of c.args.bytes.now ≡ c.push.new.self ++ pieces_of r) (sym (take_rest rest n))
          (pieces_on c.args.bytes.now rest n c.loop-rest.pieces c.push.new.self c.in_ok-wanted_of.field-0 c.loop-rest.invariant.start c.piece_length-length.ensures.first
          c.in_ok-wanted_of.ensures c.in_ok-push.ensures);
      short = subst (λ r. too_long r ≡ None) (sym (take_rest rest n)) (short_rest n rest c.loop-rest.invariant.short);
    }

pub returns : goal.returns
returns c =
    pieces_end c.args.bytes.now c.loop-rest.rest.now c.loop-rest.pieces c.loop-rest.invariant.start (is_none c.is_empty.result c.loop-rest.rest.now c.is_empty.ensures
    c.loop-rest-test.false)
