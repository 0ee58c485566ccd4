use Rattle.std.proofs.Common.{ap, ◌∙◌, length}
use Rattle.item_emission.specs.NamedEmission.{dimension_at}
use Rattle.item_emitter.proofs.IndexWalks.{walk-start, walk-more, walk-end}
use Rattle.item_emitter.proofs.elements.index_by.Goals as goal

pub loop-subscript-init : goal.loop-subscript-init
loop-subscript-init c =
    walk-start c.args.name.now (dimension_at c.args.dimensions.now) c.args.before c.args.last c.in_ok-distance.field-0 c.dimension_at-dimension.result c.place_behind-place.result (c.place_behind-place.ensures.is ∙ ap length c.as_slice.ensures)
    c.dimension_at-dimension.ensures c.in_ok-distance.ensures

pub loop-subscript-preserved : goal.loop-subscript-preserved
loop-subscript-preserved c =
    walk-more c.args.name.now (dimension_at c.args.dimensions.now) c.loop-subscript.before c.pop.new.self c.in-Some.subscript c.loop-subscript.index c.in_ok-index.index _ c.dimension_at-dimension-in-Some.result
    c.place_behind-place-in-Some.result c.in-Some.ensures (c.place_behind-place-in-Some.ensures.is ∙ ap length c.as_slice-in-Some.ensures) c.dimension_at-dimension-in-Some.ensures c.in_ok-index.ensures c.loop-subscript.invariant

pub returns : goal.returns
returns c = walk-end c.args.name.now (dimension_at c.args.dimensions.now) c.loop-subscript.before c.loop-subscript.index _ c.in_default.ensures.0 c.loop-subscript.invariant
