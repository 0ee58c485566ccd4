use Rattle.std.proofs.Common.{◌+◌, ◌-◌, arith}
use Rattle.item_deeds.proofs.FormLaws.{same-objects}
use Rattle.listed_input.proofs.StoreLaws.{forms-then}
use Rattle.listed_input.proofs.GiveLaws.{giving-starts, giving-goes_on, giving-ends, giving-stops}
use Rattle.listed_input.proofs.calls.give_items.Goals as goal

pub loop-init : goal.loop-init
loop-init g c = (
  same-objects c.args.run.now,
  giving-starts c.args.list c.args.first c.args.input.now c.args.run.now _ (c.args.list.count - 0) (omega arith),
)

pub loop-preserved : goal.loop-preserved
loop-preserved g c = (
  forms-then c.args.run.now c.loop.run c.give_item.new.run c.loop.invariant.0 c.give_item.ensures.forms,
  giving-goes_on c.args.list c.args.first c.args.input.now c.loop.input c.give_item.new.input c.args.run.now c.loop.run c.give_item.new.run _ _ _ c.loop.pointer c.place_behind-pointer.result
      (c.args.list.count - c.loop.counter) (c.args.list.count - (c.loop.counter + 1)) (omega arith) c.place_behind-pointer.ensures c.loop.invariant.1 c.in-Ok.ensures.gives,
)

pub returns-in-Err-clause-gives : goal.returns-in-Err-clause-gives
returns-in-Err-clause-gives g c =
    giving-stops c.args.list c.args.first c.args.input.now c.loop.input c.give_item.new.input c.args.run.now c.loop.run c.give_item.new.run _ _ _ c.loop.pointer
    (c.args.list.count - c.loop.counter) (c.args.list.count - (c.loop.counter + 1)) c.in-Err.end (omega arith) c.loop.invariant.1 c.in-Err.ensures.gives

pub returns-in-Err-clause-forms : goal.returns-in-Err-clause-forms
returns-in-Err-clause-forms g c = forms-then c.args.run.now c.loop.run c.give_item.new.run c.loop.invariant.0 c.give_item.ensures.forms

pub returns-clause-gives : goal.returns-clause-gives
returns-clause-gives g c =
    giving-ends c.args.list c.args.first c.args.input.now c.loop.input c.args.run.now c.loop.run _ _ c.loop.pointer (c.args.list.count - c.loop.counter) (omega arith)
    c.loop.invariant.1
