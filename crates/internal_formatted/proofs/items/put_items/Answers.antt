use Rattle.std.proofs.Common.{◌+◌, ◌-◌, arith}
use Rattle.internal_formatted.proofs.PutLaws.{putting-starts, putting-goes_on, putting-ends, putting-stops}
use Rattle.internal_formatted.proofs.items.put_items.Goals as goal

pub items-init : goal.items-init
items-init c = putting-starts c.args.format.now c.args.output.now c.args.list.count c.args.list.size c.args.first (c.args.list.count - 0) c.args.run.now (omega arith) c.requires

pub returns-in-Err : goal.returns-in-Err
returns-in-Err c =
    putting-stops c.args.format.now c.args.output.now c.items.output c.put_item.new.output c.args.list.count c.args.list.size c.args.first (c.args.list.count - c.items.counter)
    (c.args.list.count - (c.items.counter + 1)) c.items.pointer c.args.run.now c.items.run c.put_item.new.run c.in-Err.stop (omega arith) c.in-Err.ensures c.items.invariant

pub items-preserved : goal.items-preserved
items-preserved c =
    putting-goes_on c.args.format.now c.args.output.now c.items.output c.put_item.new.output c.args.list.count c.args.list.size c.args.first (c.args.list.count - c.items.counter)
    (c.args.list.count - (c.items.counter + 1)) c.items.pointer c.behind-pointer.result c.args.run.now c.items.run c.put_item.new.run (omega arith) c.behind-pointer.ensures c.in-Ok.ensures
    c.items.invariant

pub returns : goal.returns
returns c =
    putting-ends c.args.format.now c.args.output.now c.items.output c.args.list.count c.args.list.size c.args.first (c.args.list.count - c.items.counter) c.items.pointer c.args.run.now c.items.run
    (omega arith) c.items.invariant
