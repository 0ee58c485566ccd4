use Rattle.std.proofs.Common.{refl, rules, w32, to_z, of_z}
use Rattle.std.proofs.Math.Facts.{to_z-of_z}
use mir.Val.{SFits}
use Rattle.edit_rules.specs.edit_meaning.EditedRecords.{unit_sheet}
use Rattle.edit_rules.specs.Writer.{value_of}
use Rattle.formatted_output.proofs.ItemLaws.{item-stopped, item-put, item-halted, item-faulty}
use Rattle.formatted_output.proofs.items.put_item.Goals as goal

pub returns-in-Ok-field : goal.returns-in-Ok-field
returns-in-Ok-field g c =
    let unit : SFits w32 c.args.output.now.unit = search rules in
    item-put c.args.format.now c.args.output.now _ (to_z w32 (of_z w32 c.args.output.now.unit)) c.args.run.now c.args.pointer c.args.size _ _ c.next_field.new.sheet c.in-Ok.field
    (value_of c.in-Ok-value_under.value) (to_z-of_z unit) (record { unit = refl; on_error = refl; on_end = refl }) c.in-Ok.ensures c.in-Ok-value_under.ensures
    (c.in-Ok-field.ensures unit_sheet)

pub returns-in-Err-field : goal.returns-in-Err-field
returns-in-Err-field g c =
    let unit : SFits w32 c.args.output.now.unit = search rules in
    item-halted c.args.format.now c.args.output.now _ (to_z w32 (of_z w32 c.args.output.now.unit)) c.args.run.now c.args.pointer c.args.size _ _ c.next_field.new.sheet c.in-Ok.field
    (value_of c.in-Ok-value_under.value) c.in-Err-field.halt c.stop_by.result (to_z-of_z unit) (record { unit = refl; on_error = refl; on_end = refl }) c.in-Ok.ensures
    c.in-Ok-value_under.ensures (c.in-Err-field.ensures unit_sheet) c.stop_by.ensures

pub returns-in-Err-value_under : goal.returns-in-Err-value_under
returns-in-Err-value_under g c =
    let unit : SFits w32 c.args.output.now.unit = search rules in
    item-faulty c.args.format.now c.args.output.now _ (to_z w32 (of_z w32 c.args.output.now.unit)) c.args.run.now c.args.pointer c.args.size _ _ c.in-Ok.field c.in-Err-value_under.fault
    (to_z-of_z unit) (record { unit = refl; on_error = refl; on_end = refl }) c.in-Ok.ensures c.in-Err-value_under.ensures

pub returns-in-Err : goal.returns-in-Err
returns-in-Err g c =
    let unit : SFits w32 c.args.output.now.unit = search rules in
    item-stopped c.args.format.now c.args.output.now _ (to_z w32 (of_z w32 c.args.output.now.unit)) c.args.run.now c.args.pointer c.args.size _ _ c.in-Err.stop (to_z-of_z unit)
    (record { unit = refl; on_error = refl; on_end = refl }) c.in-Err.ensures
