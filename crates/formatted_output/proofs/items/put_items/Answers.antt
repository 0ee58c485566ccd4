use Rattle.std.proofs.Common.{◌+◌, ◌-◌, arith}
use Rattle.formatted_output.proofs.PutLaws.{putting-starts, putting-goes_on, putting-ends, putting-stops}
use Rattle.formatted_output.proofs.items.put_items.Goals as goal

pub items-init : goal.items-init
items-init g c = putting-starts c.args.format.now c.args.output.now c.args.run.now c.args.list.count c.args.list.size c.args.first (c.args.list.count - 0) _ (omega arith) c.requires

pub returns-in-Err : goal.returns-in-Err
returns-in-Err g c =
    putting-stops c.args.format.now c.args.output.now c.items.output c.put_item.new.output c.args.run.now c.args.list.count c.args.list.size c.args.first (c.args.list.count - c.items.counter)
    (c.args.list.count - (c.items.counter + 1)) c.items.pointer _ _ _ c.in-Err.stop (omega arith) c.in-Err.ensures c.items.invariant

pub items-preserved : goal.items-preserved
items-preserved g c =
    putting-goes_on c.args.format.now c.args.output.now c.items.output c.put_item.new.output c.args.run.now c.args.list.count c.args.list.size c.args.first (c.args.list.count - c.items.counter)
    (c.args.list.count - (c.items.counter + 1)) c.items.pointer c.behind-pointer.result _ _ _ (omega arith) c.behind-pointer.ensures c.in-Ok.ensures c.items.invariant

pub returns : goal.returns
returns g c =
    putting-ends c.args.format.now c.args.output.now c.items.output c.args.run.now c.args.list.count c.args.list.size c.args.first (c.args.list.count - c.items.counter) c.items.pointer _ _ (omega arith)
    c.items.invariant
