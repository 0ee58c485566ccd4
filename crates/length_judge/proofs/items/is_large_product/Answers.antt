use Rattle.std.proofs.Common.{ℕ, ◌*◌, ap, ◌∙◌}
use Rattle.length_judge.specs.ItemsSeen.{is_large}
use Rattle.length_judge.proofs.ItemLaws.{saturated_large}
use Rattle.length_judge.proofs.items.is_large_product.Goals as goal

pub returns : goal.returns
returns c = saturated_large _ _ c.is_large.ensures c.saturating_mul.ensures ∙ ap (λ (n : ℕ). is_large (c.args.elements * n)) c.from.ensures
