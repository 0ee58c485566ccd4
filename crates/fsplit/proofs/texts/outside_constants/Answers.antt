use Rattle.std.proofs.Common.{arith}
use Rattle.fsplit.proofs.TextLemmas.{outside_on, outside_end}
use Rattle.fsplit.proofs.texts.outside_constants.Goals as goal

pub loop-character-preserved : goal.loop-character-preserved
loop-character-preserved c =
    outside_on c.args.text.now c.loop-character.character-index _ c.loop-character.marks c.in_ok-marks.marks c.loop-character-test.true c.loop-character.invariant
    c.in_ok-marks.ensures

pub returns : goal.returns
returns c = outside_end c.args.text.now c.loop-character.character-index c.loop-character.marks (omega arith) c.loop-character.invariant
