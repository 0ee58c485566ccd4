use Rattle.std.proofs.Common.{ap, ◌∙◌, negsuc, pos, ◌-◌}
use Rattle.std.specs.Prelude.{nat_abs}
use Rattle.std.specs.Int.{w32, cast_signed, cast_unsigned}
use Rattle.std.proofs.lemmas.Int.{to_z-of_z}
use Rattle.run_state.specs.Bits as bits
use Rattle.constant_values.proofs.IntegerLemmas.{is-below, is-above, below-is, above-is}
use Rattle.constant_values.proofs.bits.shifted.Goals as goal

pub returns-then-count-lt0 : goal.returns-then-count-lt0
returns-then-count-lt0 c =
    c.shifted_right.ensures ∙ ap (λ n. bits.shifted (cast_signed w32 (cast_unsigned w32 c.args.number)) (negsuc n)) c.saturating_sub.ensures
    ∙ ap (λ z. bits.shifted z (negsuc (c.unsigned_abs-size.result - 1))) (to_z-of_z w32 c.args.number c.ranges.number)
    ∙ ap (bits.shifted c.args.number) (below-is c.args.count c.unsigned_abs-size.result (is-below c.args.count c.ranges.count c.if-count-lt0.true)
    (c.unsigned_abs-size.ensures.value ∙ ap nat_abs (to_z-of_z w32 c.args.count c.ranges.count)))

pub returns-else-count-lt0 : goal.returns-else-count-lt0
returns-else-count-lt0 c =
    c.shifted_left.ensures ∙ ap (λ z. bits.shifted z (pos c.unsigned_abs-size.result)) (to_z-of_z w32 c.args.number c.ranges.number)
    ∙ ap (bits.shifted c.args.number) (above-is c.args.count c.unsigned_abs-size.result (is-above c.args.count c.ranges.count c.if-count-lt0.false)
    (c.unsigned_abs-size.ensures.value ∙ ap nat_abs (to_z-of_z w32 c.args.count c.ranges.count)))
