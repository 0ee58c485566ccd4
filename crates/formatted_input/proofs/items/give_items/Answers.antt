use Rattle.std.proofs.Common.{◌+◌, ◌-◌, arith}
use Rattle.item_deeds.proofs.FormLaws.{same-objects}
use Rattle.listed_input.proofs.StoreLaws.{forms-then}
use Rattle.formatted_input.proofs.GiveLaws.{giving-starts, giving-goes_on, giving-ends, giving-stops}
use Rattle.formatted_input.proofs.items.give_items.Goals as goal

pub items-init : goal.items-init
items-init g c = (
  same-objects c.args.run.now,
  giving-starts c.args.format.now c.args.input.now c.args.run.now c.args.list.count c.args.list.size c.args.first (c.args.list.count - 0) _ (omega arith) c.requires,
)

pub items-preserved : goal.items-preserved
items-preserved g c = (
  forms-then c.args.run.now c.items.run c.give_item.new.run c.items.invariant.0 c.give_item.ensures.forms,
  giving-goes_on c.args.format.now c.args.input.now c.items.input c.give_item.new.input c.args.run.now c.items.run c.give_item.new.run c.args.list.count c.args.list.size c.args.first
      (c.args.list.count - c.items.counter) (c.args.list.count - (c.items.counter + 1)) c.items.pointer c.behind-next.result _ _ _ (omega arith) (c.behind-next.ensures c.in-Ok.ensures.there)
      c.in-Ok.ensures.gives c.items.invariant.1,
)

pub returns-in-Err-clause-gives : goal.returns-in-Err-clause-gives
returns-in-Err-clause-gives g c =
    giving-stops c.args.format.now c.args.input.now c.items.input c.give_item.new.input c.args.run.now c.items.run c.give_item.new.run c.args.list.count c.args.list.size c.args.first
    (c.args.list.count - c.items.counter) (c.args.list.count - (c.items.counter + 1)) c.items.pointer _ _ _ c.in-Err.stop (omega arith) c.in-Err.ensures.gives c.items.invariant.1

pub returns-in-Err-clause-forms : goal.returns-in-Err-clause-forms
returns-in-Err-clause-forms g c = forms-then c.args.run.now c.items.run c.give_item.new.run c.items.invariant.0 c.give_item.ensures.forms

pub returns-clause-gives : goal.returns-clause-gives
returns-clause-gives g c =
    giving-ends c.args.format.now c.args.input.now c.items.input c.args.run.now c.items.run c.args.list.count c.args.list.size c.args.first (c.args.list.count - c.items.counter) c.items.pointer _ _
    (omega arith) c.items.invariant.1
