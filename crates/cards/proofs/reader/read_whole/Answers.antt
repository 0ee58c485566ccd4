use Rattle.cards.proofs.FirstLemmas.{pass_cards, reading_is}
use Rattle.cards.proofs.reader.read_whole.Goals as goal

pub past_limit-requires-clause-cards : goal.past_limit-requires-clause-cards
past_limit-requires-clause-cards c =
    pass_cards c.args.file c.args.refused c.args.bytes.now c.within-front.result.now c.in_ok-group.field-0 c.in_ok-group.ensures c.within-front.ensures

pub returns : goal.returns
returns c =
    reading_is c.args.file c.args.refused c.args.bytes.now c.within-front.result.now c.in_ok-group.field-0 c.in_ok-closed.field-0 c.past_limit.result
    c.in_ok-group.ensures c.within-front.ensures c.in_ok-closed.ensures c.past_limit.ensures
