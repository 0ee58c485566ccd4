use Rattle.std.proofs.Common.{◌+◌, refl}
use Rattle.run_words.proofs.CountLemmas.{one_digit_more}
use Rattle.run_words.proofs.counts.capped_value.Goals as goal

pub loop-digit-preserved : goal.loop-digit-preserved
loop-digit-preserved c =
    one_digit_more c.args.digits.now c.loop-digit.digit-index (c.loop-digit.digit-index + 1) c.loop-digit.value c.from.result c.min-value.result c.requires
    c.loop-digit-test.true refl c.loop-digit.invariant c.from.ensures c.min-value.ensures
