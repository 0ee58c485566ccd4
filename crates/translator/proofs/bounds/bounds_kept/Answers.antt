use Rattle.std.proofs.Common.{map, ap, arith}
use Rattle.unit_writer.specs.ToldUnits.{bound_told}
use Rattle.translator.proofs.BoundLemmas.{kept-none, kept-more, kept-end}
use Rattle.translator.proofs.bounds.bounds_kept.Goals as goal

pub loop-dummy-init : goal.loop-dummy-init
loop-dummy-init c = kept-none c.args.unit.now c.args.dummies.now (map bound_told c.new-found.result.items) (ap (map bound_told) c.new-found.ensures.items)

pub loop-dummy-preserved : goal.loop-dummy-preserved
loop-dummy-preserved c =
    kept-more c.args.unit.now c.args.dummies.now c.loop-dummy.dummy-index c.dummy-item.result _ (map bound_told c.loop-dummy.found.items) (map bound_told c.add_dummy.new.found.items)
    c.loop-dummy-test.true c.dummy-item.is c.in_ok-add_dummy.ensures c.loop-dummy.invariant

pub returns : goal.returns
returns c = kept-end c.args.unit.now c.args.dummies.now c.loop-dummy.dummy-index (map bound_told c.loop-dummy.found.items) (omega (arith, c.loop-dummy-test.false)) c.loop-dummy.invariant
