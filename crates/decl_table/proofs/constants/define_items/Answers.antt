use Rattle.std.proofs.Common.{arith}
use Rattle.decl_table.proofs.FactLemmas.{defines-nothing}
use Rattle.decl_table.proofs.ConstantLemmas.{defines-more, defines-end}
use Rattle.decl_table.proofs.constants.define_items.Goals as goal

pub loop-item-init : goal.loop-item-init
loop-item-init c = defines-nothing c.args.unit.now c.args.constants.now

pub loop-item-preserved : goal.loop-item-preserved
loop-item-preserved c =
    defines-more c.args.unit.now _ _ _ c.args.items.now c.loop-item.item-index c.item-item.result _ c.loop-item-test.true c.item-item.is c.loop-item.invariant c.in_ok-define.ensures

pub returns : goal.returns
returns c = defines-end c.args.unit.now _ _ c.args.items.now c.loop-item.item-index (omega arith) c.loop-item.invariant
