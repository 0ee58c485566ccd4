use Rattle.std.proofs.Common.{◌+◌, get_or, refl, ap, ◌∙◌, arith}
use Rattle.statement_places.proofs.SizeLemmas.{turns_more, turns_end}
use Rattle.statement_places.proofs.loops.turn_sizes.Goals as goal

pub loop-first-preserved : goal.loop-first-preserved
loop-first-preserved c =
    turns_more c.args.statements.now c.args.firsts.now c.loop-first.first-index (get_or c.args.firsts.now c.loop-first.first-index 0) 0 c.loop-first.sum c.in_ok-sum.sum _
    c.loop-first-test.true refl c.loop-first.invariant (c.in_ok-sum.ensures ∙ ap (λ n. c.loop-first.sum + n) c.turn_size.ensures)

pub returns : goal.returns
returns c = turns_end c.args.statements.now c.args.firsts.now c.loop-first.first-index c.loop-first.sum _ (omega arith) c.loop-first.invariant
