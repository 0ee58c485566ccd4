use Rattle.std.proofs.Common.{map, arith}
use Rattle.unit_writer.specs.ToldUnits.{bound_told}
use Rattle.translator.proofs.BoundLemmas.{dimensions-none, dimensions-more, dimensions-end}
use Rattle.translator.proofs.bounds.add_dimensions.Goals as goal

pub loop-place-init : goal.loop-place-init
loop-place-init c = dimensions-none c.args.table.now c.args.name.now c.args.dimensions.now (map bound_told c.args.found.now.items)

pub loop-place-preserved : goal.loop-place-preserved
loop-place-preserved c =
    dimensions-more c.args.table.now c.args.name.now c.args.dimensions.now c.loop-place.place c.index-dimensions-place.result _ _ (map bound_told c.loop-place.found.items)
    (map bound_told c.add_dimension.new.found.items) c.loop-place-test.true c.index-dimensions-place.is c.in_ok-add_dimension.ensures c.loop-place.invariant

pub returns : goal.returns
returns c =
    dimensions-end c.args.table.now c.args.name.now c.args.dimensions.now c.loop-place.place (map bound_told c.args.found.now.items) (map bound_told c.loop-place.found.items)
    (omega (arith, c.loop-place-test.false)) c.loop-place.invariant
