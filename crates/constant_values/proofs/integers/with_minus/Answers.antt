use Rattle.std.proofs.Common.{Some, ap, ◌∙◌}
use Rattle.std.specs.Prelude.{neg_ℤ}
use Rattle.std.specs.Int.{w32}
use Rattle.std.proofs.lemmas.Int.{to_z-of_z}
use Rattle.f_tree.specs.Values.{IsInt, checked}
use Rattle.constant_values.specs.Folded.{given}
use Rattle.constant_values.proofs.IntegerLemmas.{is-below, is-above, sign-below, sign-turned}
use Rattle.constant_values.proofs.integers.with_minus.Goals as goal

pub returns-then-a-lt0 : goal.returns-then-a-lt0
returns-then-a-lt0 c =
    ap (λ z. Some (IsInt z)) (to_z-of_z w32 c.args.a c.ranges.a)
    ∙ sign-below c.args.a c.args.b c.ranges.a c.requires (is-below c.args.a c.ranges.a c.if-a-lt0.true)

pub returns-else-a-lt0 : goal.returns-else-a-lt0
returns-else-a-lt0 c =
    c.negated.ensures ∙ ap (λ z. given (checked (neg_ℤ z))) (to_z-of_z w32 c.args.a c.ranges.a)
    ∙ sign-turned c.args.a c.args.b c.requires (is-above c.args.a c.ranges.a c.if-a-lt0.false)
