use Rattle.std.proofs.Common.{ap, ◌∙◌}
use Rattle.std.specs.Prelude.{nat_abs}
use Rattle.std.specs.Int.{w32}
use Rattle.std.proofs.lemmas.Int.{to_z-of_z}
use Rattle.f_tree.specs.Values.{checked}
use Rattle.f_tree.specs.Valuing as valuing
use Rattle.constant_values.specs.Folded.{given}
use Rattle.constant_values.proofs.IntegerLemmas.{is-below, is-above, raised-below, raised-above}
use Rattle.constant_values.proofs.integers.power.Goals as goal

pub returns-then-exponent-lt0 : goal.returns-then-exponent-lt0
returns-then-exponent-lt0 c =
    c.inverse_power.ensures
    ∙ ap (λ b. given (valuing.inverse_of (valuing.power_of b c.unsigned_abs-size.result))) (to_z-of_z w32 c.args.base c.ranges.base)
    ∙ ap given (raised-below c.args.base c.args.exponent c.unsigned_abs-size.result (is-below c.args.exponent c.ranges.exponent c.if-exponent-lt0.true)
    (c.unsigned_abs-size.ensures.value ∙ ap nat_abs (to_z-of_z w32 c.args.exponent c.ranges.exponent)))

pub returns-else-exponent-lt0 : goal.returns-else-exponent-lt0
returns-else-exponent-lt0 c =
    c.whole_power.ensures
    ∙ ap (λ b. given (checked (valuing.power_of b c.unsigned_abs-size.result))) (to_z-of_z w32 c.args.base c.ranges.base)
    ∙ ap given (raised-above c.args.base c.args.exponent c.unsigned_abs-size.result (is-above c.args.exponent c.ranges.exponent c.if-exponent-lt0.false)
    (c.unsigned_abs-size.ensures.value ∙ ap nat_abs (to_z-of_z w32 c.args.exponent c.ranges.exponent)))
