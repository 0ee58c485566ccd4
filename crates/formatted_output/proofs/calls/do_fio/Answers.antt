use Rattle.std.proofs.Common.{rules, w32, to_z, of_z, refl, Ok, Err}
use Rattle.std.proofs.Math.Facts.{to_z-of_z}
use mir.Val.{SFits}
use Rattle.formatted_output.proofs.CallLaws.{items-answered, items-faulty, stopped-at}
use Rattle.formatted_output.proofs.calls.do_fio.Goals as goal

pub returns-in-Ok-put_items : goal.returns-in-Ok-put_items
returns-in-Ok-put_items g c =
    items-answered c.args.format.now c.args.run.now c.args.count c.args.first c.args.size c.in-Ok.list c.args.output.now c.put_items.new.output _ _ (Ok c.in-Ok-put_items.field-0) _ refl
    c.in-Ok.ensures c.in-Ok-put_items.ensures

pub returns-in-Err-put_items : goal.returns-in-Err-put_items
returns-in-Err-put_items g c =
    let unit : SFits w32 c.put_items.new.output.unit = search rules in
    let on_error : SFits w32 c.put_items.new.output.on_error = search rules in
    let on_end : SFits w32 c.put_items.new.output.on_end = search rules in
    items-answered c.args.format.now c.args.run.now c.args.count c.args.first c.args.size c.in-Ok.list c.args.output.now c.put_items.new.output _ _ (Err c.in-Err-put_items.stop) c.over.result
    (stopped-at c.args.output.now c.put_items.new.output (to_z w32 (of_z w32 c.put_items.new.output.unit)) (to_z w32 (of_z w32 c.put_items.new.output.on_error))
    (to_z w32 (of_z w32 c.put_items.new.output.on_end)) c.in-Err-put_items.stop c.stopped.result c.over.result c.in-Err-put_items.ensures.same c.over.ensures c.stopped.ensures (to_z-of_z unit)
    (to_z-of_z on_error) (to_z-of_z on_end))
    c.in-Ok.ensures c.in-Err-put_items.ensures

pub returns-in-Err : goal.returns-in-Err
returns-in-Err g c =
    items-faulty c.args.format.now c.args.run.now c.args.count c.args.first c.args.size c.args.output.now _ c.in-Err.fault c.requires c.in-Err.ensures
