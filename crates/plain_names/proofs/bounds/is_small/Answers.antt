use Rattle.std.proofs.Common.{◌*◌, min, nat_lt, ap, ◌∙◌, lit≤}
use Rattle.name_facts.specs.Dimensions.{elements_in}
use Rattle.plain_names.proofs.ElementLaws.{size-below}
use Rattle.plain_names.proofs.bounds.is_small.Goals as goal

pub returns : goal.returns
returns c =
    ap (λ n. nat_lt n 67108865) (c.saturating_mul.ensures ∙ ap (λ n. min (n * 4) 18446744073709551615) c.elements.ensures)
    ∙ size-below (elements_in c.args.bounds.now) 18446744073709551615 67108865 (lit≤ tt)
