use Rattle.std.proofs.Common.{pos, ap, ◌∙◌}
use Rattle.std.specs.Prelude.{nat_abs}
use Rattle.std.specs.Int.{w32}
use Rattle.std.proofs.lemmas.Int.{to_z-of_z}
use Rattle.f_tree.specs.Values.{checked}
use Rattle.constant_values.specs.Folded.{given}
use Rattle.constant_values.proofs.IntegerLemmas.{is-above, sign-above}
use Rattle.constant_values.proofs.integers.with_sign_of.Goals as goal

pub returns-else-b-lt0 : goal.returns-else-b-lt0
returns-else-b-lt0 c =
    c.magnitude.ensures ∙ ap (λ z. given (checked (pos (nat_abs z)))) (to_z-of_z w32 c.args.a c.ranges.a)
    ∙ sign-above c.args.a c.args.b (is-above c.args.b c.ranges.b c.if-b-lt0.false)
