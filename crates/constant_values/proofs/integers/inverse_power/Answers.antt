use Rattle.std.proofs.Common.{pos, SFits, rules, ap, sym, ◌∙◌}
use Rattle.std.specs.Int.{w32}
use Rattle.std.proofs.lemmas.Int.{to_z-of_z}
use Rattle.f_tree.specs.Valuing as valuing
use Rattle.constant_values.specs.Folded.{given}
use Rattle.constant_values.proofs.IntegerLemmas.{inverse-some}
use Rattle.constant_values.proofs.integers.inverse_power.Goals as goal

pub returns-in-Some : goal.returns-in-Some
returns-in-Some c =
    let fits : SFits w32 c.in-Some.power = search rules in
    c.quotient.ensures ∙ ap (λ p. given (valuing.divided (pos 1) p)) (to_z-of_z w32 c.in-Some.power fits)
    ∙ sym (inverse-some _ c.in-Some.power c.in-Some.ensures)
    ∙ ap (λ b. given (valuing.inverse_of (valuing.power_of b c.args.exponent))) (to_z-of_z w32 c.args.base c.ranges.base)
