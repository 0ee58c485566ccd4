use Rattle.std.proofs.Common.{◌+◌, ◌-◌, ◌<◌, length, sym, rules, arith}
use Rattle.item_deeds.proofs.FormLaws.{same-objects}
use Rattle.library_calls.specs.Room.{HasRoom}
use Rattle.listed_input.proofs.StoreLaws.{forms-then}
use Rattle.internal_input.proofs.TextLaws.{room-kept, room-resized}
use Rattle.internal_input.proofs.GiveLaws.{giving-starts, giving-goes_on, giving-ends, giving-stops}
use Rattle.internal_input.proofs.calls.give_items.Goals as goal

pub loop-init : goal.loop-init
loop-init c = (same-objects c.args.run.now, giving-starts c.args.list c.args.first c.args.input.now c.args.run.now (c.args.list.count - 0) (omega arith))

pub give_item-requires : goal.give_item-requires
give_item-requires c =
    room-resized (length c.args.buffer.now) (length c.loop.buffer) c.loop.run (sym c.loop.auto.buffer) (room-kept (length c.args.buffer.now) c.args.run.now c.loop.run c.requires c.loop.invariant.0)

pub loop-preserved : goal.loop-preserved
loop-preserved c =
    let large : HasRoom (length c.args.buffer.now) c.loop.run = room-kept (length c.args.buffer.now) c.args.run.now c.loop.run c.requires c.loop.invariant.0 in
    let small : length c.args.buffer.now < 18446744073709551615 = search rules in (
      forms-then c.args.run.now c.loop.run c.give_item.new.run c.loop.invariant.0 c.give_item.ensures.forms,
      giving-goes_on c.args.list c.args.first c.args.input.now c.loop.input c.give_item.new.input c.args.run.now c.loop.run c.give_item.new.run c.loop.pointer c.place_behind-pointer.result
          (c.args.list.count - c.loop.counter) (c.args.list.count - (c.loop.counter + 1)) (length c.args.buffer.now) (omega arith) c.place_behind-pointer.ensures large small c.loop.invariant.1
          c.in-Ok.ensures.gives,
    )

pub returns-in-Err-clause-gives : goal.returns-in-Err-clause-gives
returns-in-Err-clause-gives c =
    let large : HasRoom (length c.args.buffer.now) c.loop.run = room-kept (length c.args.buffer.now) c.args.run.now c.loop.run c.requires c.loop.invariant.0 in
    let small : length c.args.buffer.now < 18446744073709551615 = search rules in
    giving-stops c.args.list c.args.first c.args.input.now c.loop.input c.give_item.new.input c.args.run.now c.loop.run c.give_item.new.run c.loop.pointer
    (c.args.list.count - c.loop.counter) (c.args.list.count - (c.loop.counter + 1)) (length c.args.buffer.now) c.in-Err.end (omega arith) large small c.loop.invariant.1 c.in-Err.ensures.gives

pub returns-in-Err-clause-forms : goal.returns-in-Err-clause-forms
returns-in-Err-clause-forms c = forms-then c.args.run.now c.loop.run c.give_item.new.run c.loop.invariant.0 c.give_item.ensures.forms

pub returns-clause-gives : goal.returns-clause-gives
returns-clause-gives c =
    giving-ends c.args.list c.args.first c.args.input.now c.loop.input c.args.run.now c.loop.run c.loop.pointer (c.args.list.count - c.loop.counter) (omega arith) c.loop.invariant.1
