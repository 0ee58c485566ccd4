use Rattle.cards.proofs.FirstLemmas.{unended_none, unended_end, unended_card}
use Rattle.cards.proofs.faults.unended.Goals as goal

pub returns-in-empty : goal.returns-in-empty
returns-in-empty c = unended_none c.args.statements.now c.in-empty.len_below

pub returns-then-is_end : goal.returns-then-is_end
returns-then-is_end c =
    unended_end c.args.statements.now c.last-item.result c.as_slice.result.now c.is_end.result c.in-len1-up.len_at_least c.last-item.is c.as_slice.ensures
    c.is_end.ensures c.if-is_end.true

pub returns-else-is_end : goal.returns-else-is_end
returns-else-is_end c =
    unended_card c.args.statements.now c.last-item.result c.as_slice.result.now c.is_end.result c.in-len1-up.len_at_least c.last-item.is c.as_slice.ensures
    c.is_end.ensures c.if-is_end.false
