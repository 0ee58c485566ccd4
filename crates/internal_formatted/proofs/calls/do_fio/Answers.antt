use Rattle.std.proofs.Common.{rules, w32, to_z, of_z, refl, Ok, Err}
use Rattle.std.proofs.Math.Facts.{to_z-of_z}
use mir.Val.{SFits}
use Rattle.internal_formatted.proofs.CallLaws.{items-answered, items-faulty, recordless-answered, stopped-at, same-none}
use Rattle.internal_formatted.proofs.calls.do_fio.Goals as goal

pub returns-then-output-eq0 : goal.returns-then-output-eq0
returns-then-output-eq0 c =
    let on_error : SFits w32 c.args.output.now.on_error = search rules in
    let on_end : SFits w32 c.args.output.now.on_end = search rules in
    recordless-answered c.args.format.now c.args.count c.args.first c.args.size c.in-Ok.list c.args.output.now c.args.run.now c.without_records.result
    (same-none c.in-Ok.list.count c.args.output.now.on_error (to_z w32 (of_z w32 c.args.output.now.on_error)) c.args.output.now.on_end (to_z w32 (of_z w32 c.args.output.now.on_end))
    c.without_records.result c.without_records.ensures (to_z-of_z on_error) (to_z-of_z on_end))
    c.if-output-eq0.true c.requires c.in-Ok.ensures

pub returns-in-Ok-put_items : goal.returns-in-Ok-put_items
returns-in-Ok-put_items c =
    items-answered c.args.format.now c.args.count c.args.first c.args.size c.in-Ok.list c.args.output.now c.put_items.new.output c.args.run.now c.put_items.new.run
    (Ok c.in-Ok-put_items.field-0) _ refl c.if-output-eq0.false c.in-Ok.ensures c.in-Ok-put_items.ensures

pub returns-in-Err-put_items : goal.returns-in-Err-put_items
returns-in-Err-put_items c =
    let on_error : SFits w32 c.put_items.new.output.on_error = search rules in
    let on_end : SFits w32 c.put_items.new.output.on_end = search rules in
    items-answered c.args.format.now c.args.count c.args.first c.args.size c.in-Ok.list c.args.output.now c.put_items.new.output c.args.run.now c.put_items.new.run
    (Err c.in-Err-put_items.stop) c.over.result
    (stopped-at c.args.output.now c.put_items.new.output (to_z w32 (of_z w32 c.put_items.new.output.on_error)) (to_z w32 (of_z w32 c.put_items.new.output.on_end)) c.in-Err-put_items.stop
    c.stopped.result c.over.result c.in-Err-put_items.ensures.same c.over.ensures c.stopped.ensures (to_z-of_z on_error) (to_z-of_z on_end))
    c.if-output-eq0.false c.in-Ok.ensures c.in-Err-put_items.ensures

pub returns-in-Err : goal.returns-in-Err
returns-in-Err c = items-faulty c.args.format.now c.args.count c.args.first c.args.size c.args.output.now c.args.run.now c.in-Err.fault c.requires c.in-Err.ensures
