use Rattle.std.proofs.Common.{Some, ap, sym, ◌∙◌}
use Rattle.std.specs.Prelude.{◌+ℤ◌, ◌-ℤ◌}
use Rattle.std.specs.Int.{w32, cast_signed, cast_unsigned}
use Rattle.std.proofs.lemmas.Int.{to_z-of_z}
use Rattle.f_tree.specs.Values.{IsInt, checked}
use Rattle.constant_values.specs.Folded.{given, binary_folded}
use Rattle.constant_values.proofs.OperatorLemmas.{int-Plus, int-Minus}
use Rattle.constant_values.proofs.operators.on_integers.Goals as goal

pub returns-in-Plus : goal.returns-in-Plus
returns-in-Plus c =
    c.integer-in-Plus.ensures ∙ c.sum.ensures
    ∙ ap (λ x. given (checked (x +ℤ cast_signed w32 (cast_unsigned w32 c.args.b)))) (to_z-of_z w32 c.args.a c.ranges.a)
    ∙ ap (λ y. given (checked (c.args.a +ℤ y))) (to_z-of_z w32 c.args.b c.ranges.b)
    ∙ sym (int-Plus c.args.a c.args.b) ∙ ap (λ o. binary_folded o (Some (IsInt c.args.a)) (Some (IsInt c.args.b))) (sym c.in-Plus.is)

pub returns-in-Minus : goal.returns-in-Minus
returns-in-Minus c =
    c.integer-in-Minus.ensures ∙ c.difference.ensures
    ∙ ap (λ x. given (checked (x -ℤ cast_signed w32 (cast_unsigned w32 c.args.b)))) (to_z-of_z w32 c.args.a c.ranges.a)
    ∙ ap (λ y. given (checked (c.args.a -ℤ y))) (to_z-of_z w32 c.args.b c.ranges.b)
    ∙ sym (int-Minus c.args.a c.args.b) ∙ ap (λ o. binary_folded o (Some (IsInt c.args.a)) (Some (IsInt c.args.b))) (sym c.in-Minus.is)
