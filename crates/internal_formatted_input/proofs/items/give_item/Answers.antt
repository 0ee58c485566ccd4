use Rattle.std.proofs.Common.{refl, subst, Err}
use Rattle.formatted_records.specs.Sheets.{descriptor_of}
use Rattle.taken_items.specs.declared.values.ItemHalt.{ItemHalt}
use Rattle.taken_items.specs.Taking.{TakesItem}
use Rattle.internal_formatted_input.proofs.ItemLaws.{item-stopped, item-taken, item-halted, item-faulty}
use Rattle.internal_formatted_input.proofs.items.give_item.Goals as goal

pub returns-in-Ok-take_item-clause-gives : goal.returns-in-Ok-take_item-clause-gives
returns-in-Ok-take_item-clause-gives c =
    item-taken c.args.format.now c.args.input.now _ c.next_field.new.record c.args.pointer c.args.size c.args.run.now c.take_item.new.run c.in-Ok.field
    (record { on_error = refl; on_end = refl }) c.in-Ok.ensures c.in-Ok-take_item.ensures.takes

pub returns-in-Err-Halts-clause-gives : goal.returns-in-Err-Halts-clause-gives
returns-in-Err-Halts-clause-gives c =
    item-halted c.args.format.now c.args.input.now _ c.next_field.new.record c.args.pointer c.args.size c.args.run.now c.take_item.new.run c.in-Ok.field c.in-Err-Halts.halt c.stop_by.result
    (record { on_error = refl; on_end = refl }) c.in-Ok.ensures
    (subst (λ (one : ItemHalt). TakesItem (descriptor_of c.in-Ok.field) c.args.pointer c.args.size c.next_field.new.record c.take_item.new.record c.args.run.now c.take_item.new.run (Err one))
    c.in-Err-Halts.field-0-is c.in-Err-Halts.ensures.takes)
    c.stop_by.ensures

pub returns-in-Err-Fault-clause-gives : goal.returns-in-Err-Fault-clause-gives
returns-in-Err-Fault-clause-gives c =
    item-faulty c.args.format.now c.args.input.now _ c.next_field.new.record c.args.pointer c.args.size c.args.run.now c.take_item.new.run c.in-Ok.field c.in-Err-Fault.fault
    (record { on_error = refl; on_end = refl }) c.in-Ok.ensures
    (subst (λ (one : ItemHalt). TakesItem (descriptor_of c.in-Ok.field) c.args.pointer c.args.size c.next_field.new.record c.take_item.new.record c.args.run.now c.take_item.new.run (Err one))
    c.in-Err-Fault.field-0-is c.in-Err-Fault.ensures.takes)

pub returns-in-Err-clause-gives : goal.returns-in-Err-clause-gives
returns-in-Err-clause-gives c =
    item-stopped c.args.format.now c.args.input.now _ c.args.pointer c.args.size c.args.run.now c.in-Err.stop (record { on_error = refl; on_end = refl }) c.in-Err.ensures
