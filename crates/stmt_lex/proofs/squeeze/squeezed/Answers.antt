use Rattle.std.proofs.Common.{arith}
use Rattle.stmt_lex.proofs.StandingLemmas.{squeezed_on, squeezed_end}
use Rattle.stmt_lex.proofs.squeeze.squeezed.Goals as goal

pub loop-c-preserved : goal.loop-c-preserved
loop-c-preserved c =
    squeezed_on c.args.counts _ c.args.text.now c.loop-c.c-index c.loop-c.found _ c.loop-c.standing _ c.loop-c.invariant c.loop-c-test.true (omega arith)
    c.in_ok-found.ensures c.after-standing.ensures

pub returns : goal.returns
returns c = squeezed_end c.args.counts _ c.args.text.now c.loop-c.c-index c.loop-c.found c.loop-c.standing c.loop-c.invariant (omega arith)
