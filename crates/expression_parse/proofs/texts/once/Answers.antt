-- A character more was taken.
use Rattle.std.proofs.Common.{false}
use Rattle.expression_parse.proofs.ConstantTexts.{once_more, once_done}
use Rattle.expression_parse.proofs.texts.once.Goals as goal

pub loop-rest-preserved : goal.loop-rest-preserved
loop-rest-preserved c =
    once_more c.args.text.now c.loop-rest.found c.push.new.self c.loop-rest.rest.now c.behind_doubled-rest.result.now (record { code = 0; quoted = false })
    c.loop-rest.invariant c.in-len1-up.len_at_least c.in_ok-push.ensures.ok c.behind_doubled-rest.ensures.value

pub returns : goal.returns
returns c = once_done c.args.text.now c.loop-rest.found c.loop-rest.rest.now c.loop-rest.invariant c.in_default.len_below
