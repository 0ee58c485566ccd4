use Rattle.std.specs.Int.{w32}
use Rattle.std.proofs.lemmas.Int.{to_z-of_z}
use Rattle.item_emission.proofs.Numbers.{constant-above, negative-made, opposite-is}
use Rattle.item_emitter.proofs.arithmetic.constant.Goals as goal

pub returns-else-value-lt0 : goal.returns-else-value-lt0
returns-else-value-lt0 c = constant-above c.args.value _ c.ranges.value (to_z-of_z w32 c.args.value c.ranges.value) c.if-value-lt0.false

pub returns-else-value-eqminus2147483648 : goal.returns-else-value-eqminus2147483648
returns-else-value-eqminus2147483648 c =
    negative-made c.args.value _ _ c.prefixed.result c.ranges.value (to_z-of_z w32 c.args.value c.ranges.value) c.if-value-lt0.true c.if-value-eqminus2147483648.false
    (opposite-is c.args.value _ c.ranges.value c.if-value-eqminus2147483648.false (to_z-of_z w32 c.args.value c.ranges.value) c.if-value-lt0.true) c.prefixed.ensures
