use Rattle.std.proofs.Common.{◌*◌, ◌-◌, ◌^◌, min, refl, ap, ◌∙◌, arith}
use Rattle.plain_names.proofs.ElementLaws.{count-start, count-more, count-end}
use Rattle.plain_names.proofs.bounds.elements.Goals as goal

pub loop-bound-init : goal.loop-bound-init
loop-bound-init c = record { counted = count-start c.args.bounds.now (2 ^ 64 - 1); fits = omega arith }

pub loop-bound-preserved : goal.loop-bound-preserved
loop-bound-preserved c = record {
  counted =
      count-more c.args.bounds.now c.loop-bound.bound-index _ _ _ c.loop-bound.count _ (2 ^ 64 - 1) c.loop-bound-test.true refl c.loop-bound.invariant.counted
      (c.saturating_mul-count.ensures ∙ ap (λ n. min (c.loop-bound.count * n) (2 ^ 64 - 1)) c.size.ensures.size);
  fits = omega (arith, c.saturating_mul-count.ensures);
}

pub returns : goal.returns
returns c = count-end c.args.bounds.now c.loop-bound.bound-index c.loop-bound.count (2 ^ 64 - 1) (omega arith) c.loop-bound.invariant.fits c.loop-bound.invariant.counted
