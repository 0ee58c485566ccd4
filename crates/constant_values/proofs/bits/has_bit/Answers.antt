use Rattle.std.proofs.Common.{ap, ◌∙◌, pos}
use Rattle.std.specs.Prelude.{nat_abs}
use Rattle.std.specs.Int.{w32}
use Rattle.std.proofs.lemmas.Int.{to_z-of_z}
use Rattle.run_state.specs.Bits as bits
use Rattle.constant_values.proofs.BitLemmas.{no-test-below}
use Rattle.constant_values.proofs.IntegerLemmas.{is-below, is-above, above-is}
use Rattle.constant_values.proofs.bits.has_bit.Goals as goal

pub returns-then-place-lt0 : goal.returns-then-place-lt0
returns-then-place-lt0 c = no-test-below c.args.number c.args.place (is-below c.args.place c.ranges.place c.if-place-lt0.true)

pub returns-else-place-lt0 : goal.returns-else-place-lt0
returns-else-place-lt0 c =
    c.has_bit_in.ensures ∙ ap (λ z. bits.has_bit z (pos c.unsigned_abs-size.result)) (to_z-of_z w32 c.args.number c.ranges.number)
    ∙ ap (bits.has_bit c.args.number) (above-is c.args.place c.unsigned_abs-size.result (is-above c.args.place c.ranges.place c.if-place-lt0.false)
    (c.unsigned_abs-size.ensures.value ∙ ap nat_abs (to_z-of_z w32 c.args.place c.ranges.place)))
