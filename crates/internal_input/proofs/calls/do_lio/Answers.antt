use Rattle.std.proofs.Common.{rules, w32, to_z, of_z}
use Rattle.std.proofs.Math.Facts.{to_z-of_z}
use mir.Val.{SFits}
use Rattle.item_deeds.proofs.FormLaws.{same-objects}
use Rattle.internal_input.proofs.GiveLaws.{call-goes, call-ends, call-faulty}
use Rattle.internal_input.proofs.calls.do_lio.Goals as goal

pub returns-in-Ok-give_items : goal.returns-in-Ok-give_items
returns-in-Ok-give_items c =
    call-goes c.args.kind c.args.count c.args.first c.args.size c.in-Ok.list c.args.input.now c.give_items.new.input c.args.run.now c.give_items.new.run c.in-Ok.ensures
    c.give_items.ensures.forms c.in-Ok-give_items.ensures.gives

pub returns-in-Err-give_items : goal.returns-in-Err-give_items
returns-in-Err-give_items c =
    let on_error : SFits w32 c.give_items.new.input.on_error = search rules in
    let on_end : SFits w32 c.give_items.new.input.on_end = search rules in
    call-ends c.args.kind c.args.count c.args.first c.args.size c.in-Ok.list c.args.input.now c.give_items.new.input c.args.run.now c.give_items.new.run
    c.in-Err-give_items.end (to_z w32 (of_z w32 c.give_items.new.input.on_error)) (to_z w32 (of_z w32 c.give_items.new.input.on_end)) c.ended.result (to_z-of_z on_error) (to_z-of_z on_end)
    c.ended.ensures c.in-Ok.ensures c.give_items.ensures.forms c.in-Err-give_items.ensures.gives

pub returns-in-Err : goal.returns-in-Err
returns-in-Err c = call-faulty c.args.kind c.args.count c.args.first c.args.size c.args.input.now c.args.run.now c.in-Err.fault (same-objects c.args.run.now) c.in-Err.ensures
