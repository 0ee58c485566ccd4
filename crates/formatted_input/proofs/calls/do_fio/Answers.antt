use Rattle.std.proofs.Common.{rules, w32, to_z, of_z, refl, Ok, Err}
use Rattle.std.proofs.Math.Facts.{to_z-of_z}
use mir.Val.{SFits}
use Rattle.formatted_input.proofs.CallLaws.{items-answered, items-faulty, stopped-at}
use Rattle.formatted_input.proofs.calls.do_fio.Goals as goal

pub returns-in-Ok-give_items : goal.returns-in-Ok-give_items
returns-in-Ok-give_items g c =
    items-answered c.args.format.now c.args.run.now c.give_items.new.run c.args.count c.args.first c.args.size c.in-Ok.list c.args.input.now c.give_items.new.input _ _
    (Ok c.in-Ok-give_items.field-0) _ refl c.in-Ok.ensures c.give_items.ensures.forms c.in-Ok-give_items.ensures.gives

pub returns-in-Err-give_items : goal.returns-in-Err-give_items
returns-in-Err-give_items g c =
    let unit : SFits w32 c.give_items.new.input.unit = search rules in
    let on_error : SFits w32 c.give_items.new.input.on_error = search rules in
    let on_end : SFits w32 c.give_items.new.input.on_end = search rules in
    items-answered c.args.format.now c.args.run.now c.give_items.new.run c.args.count c.args.first c.args.size c.in-Ok.list c.args.input.now c.give_items.new.input _ _
    (Err c.in-Err-give_items.stop) c.over.result
    (stopped-at c.args.input.now c.give_items.new.input (to_z w32 (of_z w32 c.give_items.new.input.unit)) (to_z w32 (of_z w32 c.give_items.new.input.on_error))
    (to_z w32 (of_z w32 c.give_items.new.input.on_end)) c.in-Err-give_items.stop c.stopped.result c.over.result c.in-Err-give_items.ensures.gives.same c.over.ensures c.stopped.ensures (to_z-of_z unit)
    (to_z-of_z on_error) (to_z-of_z on_end))
    c.in-Ok.ensures c.give_items.ensures.forms c.in-Err-give_items.ensures.gives

pub returns-in-Err : goal.returns-in-Err
returns-in-Err g c =
    items-faulty c.args.format.now c.args.run.now c.args.count c.args.first c.args.size c.args.input.now _ c.in-Err.fault c.requires c.in-Err.ensures
