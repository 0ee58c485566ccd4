use Rattle.std.proofs.Common.{◌+◌, get_or, refl, ap, ◌∙◌}
use Rattle.statement_places.proofs.WayLemmas.{to_found, to_more, to_end}
use Rattle.statement_places.proofs.ways.turns_to.Goals as goal

pub returns-then-other-first : goal.returns-then-other-first
returns-then-other-first c =
    to_found c.args.statements.now c.args.first (get_or c.args.firsts.now c.loop-other.other-index 0) 0 c.loop-other.other-index c.loop-other.sum c.in_ok-sum.sum _ c.args.firsts.now
    c.loop-other-test.true refl c.if-other-first.true c.loop-other.invariant (c.in_ok-sum.ensures ∙ ap (λ n. c.loop-other.sum + n) c.turn_size.ensures)

pub loop-other-preserved : goal.loop-other-preserved
loop-other-preserved c =
    to_more c.args.statements.now c.args.first (get_or c.args.firsts.now c.loop-other.other-index 0) 0 c.loop-other.other-index c.loop-other.sum c.in_ok-sum.sum _ c.args.firsts.now
    c.loop-other-test.true refl c.if-other-first.false c.loop-other.invariant (c.in_ok-sum.ensures ∙ ap (λ n. c.loop-other.sum + n) c.turn_size.ensures)

pub returns : goal.returns
returns c = to_end c.args.statements.now c.args.first c.loop-other.other-index c.loop-other.sum _ c.args.firsts.now c.loop-other-test.false c.loop-other.invariant
