use Rattle.std.proofs.Common.{refl}
use Rattle.edit_rules.specs.Writer.{value_of}
use Rattle.internal_formatted.proofs.ItemLaws.{item-stopped, item-put, item-halted, item-faulty}
use Rattle.internal_formatted.proofs.items.put_item.Goals as goal

pub returns-in-Ok-field : goal.returns-in-Ok-field
returns-in-Ok-field c =
    item-put c.args.format.now c.args.output.now _ c.args.pointer c.args.size c.args.run.now _ c.next_field.new.sheet c.in-Ok.field (value_of c.in-Ok-value_under.value)
    (record { on_error = refl; on_end = refl }) c.in-Ok.ensures c.in-Ok-value_under.ensures c.in-Ok-field.ensures

pub returns-in-Err-field : goal.returns-in-Err-field
returns-in-Err-field c =
    item-halted c.args.format.now c.args.output.now _ c.args.pointer c.args.size c.args.run.now _ c.next_field.new.sheet c.in-Ok.field (value_of c.in-Ok-value_under.value)
    c.in-Err-field.halt c.stop_by.result (record { on_error = refl; on_end = refl }) c.in-Ok.ensures c.in-Ok-value_under.ensures c.in-Err-field.ensures c.stop_by.ensures

pub returns-in-Err-value_under : goal.returns-in-Err-value_under
returns-in-Err-value_under c =
    item-faulty c.args.format.now c.args.output.now _ c.args.pointer c.args.size c.args.run.now _ c.in-Ok.field c.in-Err-value_under.fault
    (record { on_error = refl; on_end = refl }) c.in-Ok.ensures c.in-Err-value_under.ensures

pub returns-in-Err : goal.returns-in-Err
returns-in-Err c =
    item-stopped c.args.format.now c.args.output.now _ c.args.pointer c.args.size c.args.run.now _ c.in-Err.stop (record { on_error = refl; on_end = refl }) c.in-Err.ensures
