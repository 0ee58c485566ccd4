use Rattle.std.proofs.Common.{refl, ap, ◌∙◌, rules, w32, to_z, of_z, Ok, Err}
use Rattle.std.proofs.Math.Facts.{to_z-of_z}
use mir.Val.{SFits}
use Rattle.listed_output.specs.Transferring.{over_by}
use Rattle.internal_output.specs.Items.{items_held}
use Rattle.internal_output.proofs.CallLaws.{items-answered, items-faulty, same-refused}
use Rattle.internal_output.proofs.calls.do_lio.Goals as goal

pub returns-in-Ok-put_items : goal.returns-in-Ok-put_items
returns-in-Ok-put_items c =
    items-answered c.args.run.now c.put_items.new.run c.args.kind c.args.count c.args.first c.args.size c.in-Ok.list (items_held c.in-Ok.list c.ready_items.new.buffer c.in-Ok.used) c.args.output.now _
    (Ok c.in-Ok-put_items.field-0) _ refl c.in-Ok.ensures.0 c.in-Ok.ensures.1 (record { on_error = refl; on_end = refl }) c.in-Ok-put_items.ensures

pub returns-in-Err-put_items : goal.returns-in-Err-put_items
returns-in-Err-put_items c =
    let on_error : SFits w32 c.args.output.now.on_error = search rules in
    let on_end : SFits w32 c.args.output.now.on_end = search rules in
    items-answered c.args.run.now c.put_items.new.run c.args.kind c.args.count c.args.first c.args.size c.in-Ok.list (items_held c.in-Ok.list c.ready_items.new.buffer c.in-Ok.used) c.args.output.now _
    (Err c.in-Err-put_items.refusal) _
    (c.over.ensures
    ∙ ap over_by
    (same-refused c.in-Err-put_items.refusal c.args.output.now.on_error (to_z w32 (of_z w32 c.args.output.now.on_error)) c.args.output.now.on_end (to_z w32 (of_z w32 c.args.output.now.on_end))
    c.refused.result c.refused.ensures (to_z-of_z on_error) (to_z-of_z on_end)))
    c.in-Ok.ensures.0 c.in-Ok.ensures.1 (record { on_error = refl; on_end = refl }) c.in-Err-put_items.ensures

pub returns-in-Err : goal.returns-in-Err
returns-in-Err c = items-faulty c.args.run.now c.args.kind c.args.count c.args.first c.args.size c.args.output.now c.in-Err.fault c.in-Err.ensures
