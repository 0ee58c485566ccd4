use Rattle.std.proofs.Common.{◌+◌, ◌-◌, arith}
use Rattle.internal_output.proofs.FileLaws.{forms-behind}
use Rattle.internal_formatted_input.proofs.GiveLaws.{giving-starts, giving-goes_on, giving-ends, giving-stops}
use Rattle.internal_formatted_input.proofs.items.give_items.Goals as goal

pub items-init : goal.items-init
items-init c = giving-starts c.args.format.now c.args.input.now c.args.list.count c.args.list.size c.args.first (c.args.list.count - 0) c.args.run.now (omega arith) c.requires

pub returns-in-Err : goal.returns-in-Err
returns-in-Err c = record {
  gives = giving-stops c.args.format.now c.args.input.now c.items.input c.give_item.new.input c.args.list.count c.args.list.size c.args.first (c.args.list.count - c.items.counter)
      (c.args.list.count - (c.items.counter + 1)) c.items.pointer c.args.run.now c.items.run c.give_item.new.run c.in-Err.stop (omega arith) c.in-Err.ensures.gives c.items.invariant;
  forms = forms-behind c.args.run.now c.items.run c.give_item.new.run c.items.invariant.forms c.in-Err.ensures.forms;
}

pub items-preserved : goal.items-preserved
items-preserved c =
    giving-goes_on c.args.format.now c.args.input.now c.items.input c.give_item.new.input c.args.list.count c.args.list.size c.args.first (c.args.list.count - c.items.counter)
    (c.args.list.count - (c.items.counter + 1)) c.items.pointer c.behind-next.result c.args.run.now c.items.run c.give_item.new.run (omega arith)
    (c.behind-next.ensures c.in-Ok.ensures.there) c.in-Ok.ensures.forms c.in-Ok.ensures.gives c.items.invariant

pub returns : goal.returns
returns c = record {
  gives = giving-ends c.args.format.now c.args.input.now c.items.input c.args.list.count c.args.list.size c.args.first (c.args.list.count - c.items.counter) c.items.pointer c.args.run.now c.items.run
      (omega arith) c.items.invariant;
  forms = c.items.invariant.forms;
}
