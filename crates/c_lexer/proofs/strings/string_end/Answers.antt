use Rattle.std.proofs.Common.{◌+◌, add-one}
use Rattle.c_lexer.proofs.StringLemmas.{stands_awaits, stands_gives}
use Rattle.c_lexer.proofs.strings.string_end.Goals as goal

pub loop-at-preserved-in-Awaits : goal.loop-at-preserved-in-Awaits
loop-at-preserved-in-Awaits c =
    stands_awaits c.args.text.now c.loop-at.bytes c.loop-at.awaited c.in-Awaits.next c.loop-at.at (c.loop-at.at + 1) c.loop-at.invariant c.loop-at-test.true
    (add-one c.loop-at.at) c.in-Awaits.ensures.goes_on c.in-Awaits.ensures.within c.in-Awaits.ensures.quote

pub loop-at-preserved : goal.loop-at-preserved
loop-at-preserved c =
    stands_gives c.args.text.now c.loop-at.bytes c.push.new.self c.loop-at.awaited c.in-Gives.given c.loop-at.at (c.loop-at.at + 1) c.loop-at.invariant
    c.loop-at-test.true (add-one c.loop-at.at) c.in_ok-push.ensures.ok c.in-Gives.ensures.goes_on
