use Rattle.std.specs.Int.{w64}
use Rattle.std.proofs.lemmas.Int.{to_z-of_z}
use Rattle.item_emission.proofs.Numbers.{number-signed}
use Rattle.item_emitter.proofs.arithmetic.number.Goals as goal

pub returns-then-value-lt0 : goal.returns-then-value-lt0
returns-then-value-lt0 c = number-signed c.args.value _ (to_z-of_z w64 c.args.value c.ranges.value) c.if-value-lt0.true
