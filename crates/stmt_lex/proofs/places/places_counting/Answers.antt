use Rattle.std.proofs.Common.{arith}
use Rattle.stmt_lex.proofs.StandingLemmas.{placed_on, placed_end}
use Rattle.stmt_lex.proofs.places.places_counting.Goals as goal

pub loop-at-preserved : goal.loop-at-preserved
loop-at-preserved c =
    placed_on c.args.counts _ c.args.text.now c.loop-at.at c.loop-at.found _ c.loop-at.standing _ c.loop-at.invariant c.loop-at-test.true (omega arith)
    c.in_ok-found.ensures c.after-standing.ensures

pub returns : goal.returns
returns c = placed_end c.args.counts _ c.args.text.now c.loop-at.at c.loop-at.found c.loop-at.standing c.loop-at.invariant (omega arith)
