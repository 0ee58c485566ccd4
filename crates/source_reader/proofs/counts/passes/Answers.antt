use Rattle.source_reader.specs.Limits.{count_in, passes}
use Rattle.source_reader.proofs.LimitLemmas.{passes_go_on, passes_stop, passes_end}
use Rattle.source_reader.proofs.counts.passes.Goals as goal

pub returns-in-None : goal.returns-in-None
returns-in-None c =
    passes_stop (count_in c.args.counts.now) (passes (count_in c.args.counts.now) c.args.cards.now.cards c.args.cards.now.statements)
    c.statements-statement-items.result.now c.loop-statement.statement-index c.statement-item.result c.loop-statement.sum c.in_ok-count_at.field-0
    c.loop-statement-test.true c.statement-item.is c.loop-statement.invariant.0 c.in_ok-count_at.ensures c.in-None.ensures.value

pub loop-statement-preserved : goal.loop-statement-preserved
loop-statement-preserved c = (
  passes_go_on (count_in c.args.counts.now) (passes (count_in c.args.counts.now) c.args.cards.now.cards c.args.cards.now.statements)
      c.statements-statement-items.result.now c.loop-statement.statement-index c.statement-item.result c.loop-statement.sum c.in-Some.more c.in_ok-count_at.field-0
      c.loop-statement-test.true c.statement-item.is c.loop-statement.invariant.0 c.in_ok-count_at.ensures c.in-Some.ensures.value,
  c.in-Some.ensures.few,
)

pub returns : goal.returns
returns c =
    passes_end (count_in c.args.counts.now) (passes (count_in c.args.counts.now) c.args.cards.now.cards c.args.cards.now.statements)
    c.statements-statement-items.result.now c.loop-statement.statement-index c.loop-statement.sum c.loop-statement-test.false c.loop-statement.invariant.0
