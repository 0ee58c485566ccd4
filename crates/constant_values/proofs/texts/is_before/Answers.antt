use Rattle.std.proofs.Common.{◌≡◌, true, sym, ◌∙◌, arith}
use Rattle.constant_values.proofs.TextLemmas.{before-empty}
use Rattle.constant_values.proofs.texts.is_before.Goals as goal

pub returns : goal.returns
returns c =
    let left_ends : c.is_empty.result ≡ true = grind arith in
    let right_ends : c.is_empty-else-not-is_empty.result ≡ true = grind arith in
    before-empty c.compared.left.now c.compared.right.now (sym c.is_empty.ensures ∙ left_ends) (sym c.is_empty-else-not-is_empty.ensures ∙ right_ends) ∙ c.compared.invariant
