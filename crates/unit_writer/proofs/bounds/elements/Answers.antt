use Rattle.std.proofs.Common.{◌*◌, refl, ap, ◌∙◌, arith}
use Rattle.unit_writer.proofs.BoundLaws.{product-start, product-more, product-end}
use Rattle.unit_writer.proofs.bounds.elements.Goals as goal

pub loop-bound-init : goal.loop-bound-init
loop-bound-init c = product-start c.args.bounds.now

pub loop-bound-preserved : goal.loop-bound-preserved
loop-bound-preserved c =
    product-more c.args.bounds.now c.loop-bound.bound-index _ _ _ c.loop-bound.count _ c.loop-bound-test.true refl c.loop-bound.invariant
    (c.in-Some.ensures.1 ∙ ap (λ n. c.loop-bound.count * n) c.size.ensures.size)

pub returns : goal.returns
returns c = product-end c.args.bounds.now c.loop-bound.bound-index c.loop-bound.count (omega arith) c.loop-bound.invariant
