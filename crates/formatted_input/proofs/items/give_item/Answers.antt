use Rattle.std.proofs.Common.{refl, rules, w32, to_z, of_z}
use Rattle.std.proofs.Math.Facts.{to_z-of_z}
use mir.Val.{SFits}
use Rattle.formatted_input.proofs.ItemLaws.{item-stopped, item-given, item-halted, item-faulty, takes-as}
use Rattle.formatted_input.proofs.items.give_item.Goals as goal

pub returns-in-Ok-take_item-clause-gives : goal.returns-in-Ok-take_item-clause-gives
returns-in-Ok-take_item-clause-gives g c =
    let unit : SFits w32 c.args.input.now.unit = search rules in
    item-given c.args.format.now c.args.input.now _ (to_z w32 (of_z w32 c.args.input.now.unit)) c.args.run.now c.take_item.new.run c.args.pointer c.args.size _ _ c.next_field.new.record c.in-Ok.field
    (to_z-of_z unit) (record { unit = refl; on_error = refl; on_end = refl }) c.in-Ok.ensures c.in-Ok-take_item.ensures.takes

pub returns-in-Err-Halts-clause-gives : goal.returns-in-Err-Halts-clause-gives
returns-in-Err-Halts-clause-gives g c =
    let unit : SFits w32 c.args.input.now.unit = search rules in
    item-halted c.args.format.now c.args.input.now _ (to_z w32 (of_z w32 c.args.input.now.unit)) c.args.run.now c.take_item.new.run c.args.pointer c.args.size _ _ c.next_field.new.record c.in-Ok.field
    c.in-Err-Halts.halt c.stop_by.result (to_z-of_z unit) (record { unit = refl; on_error = refl; on_end = refl }) c.in-Ok.ensures (takes-as _ c.args.pointer c.args.size c.next_field.new.record c.take_item.new.record c.args.run.now c.take_item.new.run _ _ c.in-Err-Halts.field-0-is c.in-Err-Halts.ensures.takes)
    c.stop_by.ensures

pub returns-in-Err-Fault-clause-gives : goal.returns-in-Err-Fault-clause-gives
returns-in-Err-Fault-clause-gives g c =
    let unit : SFits w32 c.args.input.now.unit = search rules in
    item-faulty c.args.format.now c.args.input.now _ (to_z w32 (of_z w32 c.args.input.now.unit)) c.args.run.now c.take_item.new.run c.args.pointer c.args.size _ _ c.next_field.new.record c.in-Ok.field
    c.in-Err-Fault.fault (to_z-of_z unit) (record { unit = refl; on_error = refl; on_end = refl }) c.in-Ok.ensures
    (takes-as _ c.args.pointer c.args.size c.next_field.new.record c.take_item.new.record c.args.run.now c.take_item.new.run _ _ c.in-Err-Fault.field-0-is c.in-Err-Fault.ensures.takes)

pub returns-in-Err-clause-gives : goal.returns-in-Err-clause-gives
returns-in-Err-clause-gives g c =
    let unit : SFits w32 c.args.input.now.unit = search rules in
    item-stopped c.args.format.now c.args.input.now _ (to_z w32 (of_z w32 c.args.input.now.unit)) c.args.run.now c.args.pointer c.args.size _ _ c.in-Err.stop (to_z-of_z unit)
    (record { unit = refl; on_error = refl; on_end = refl }) c.in-Err.ensures
