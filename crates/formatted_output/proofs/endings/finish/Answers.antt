use Rattle.std.proofs.Common.{rules, w32, to_z, of_z}
use Rattle.std.proofs.Math.Facts.{to_z-of_z}
use mir.Val.{SFits}
use Rattle.formatted_output.proofs.CloseLaws.{finishes-well, finishes-refused, finishes-stopped}
use Rattle.formatted_output.proofs.endings.finish.Goals as goal

pub returns-in-Ok-write_record : goal.returns-in-Ok-write_record
returns-in-Ok-write_record g c =
    let unit : SFits w32 c.args.unit = search rules in
    finishes-well c.args.format.now c.args.walk.now (to_z w32 (of_z w32 c.args.unit)) c.args.unit c.args.sheet.now c.close.new.sheet c.record.result.now _ _ _ (to_z-of_z unit)
    c.record.ensures c.in-Ok.ensures c.in-Ok-write_record.ensures

pub returns-in-Err-write_record : goal.returns-in-Err-write_record
returns-in-Err-write_record g c =
    let unit : SFits w32 c.args.unit = search rules in
    finishes-refused c.args.format.now c.args.walk.now (to_z w32 (of_z w32 c.args.unit)) c.args.unit c.args.sheet.now c.close.new.sheet c.record.result.now _ _ _ c.in-Err-write_record.refusal
    (to_z-of_z unit) c.record.ensures c.in-Ok.ensures c.in-Err-write_record.ensures

pub returns-in-Err : goal.returns-in-Err
returns-in-Err g c =
    let unit : SFits w32 c.args.unit = search rules in
    finishes-stopped c.args.format.now c.args.walk.now (to_z w32 (of_z w32 c.args.unit)) c.args.unit c.args.sheet.now c.close.new.sheet _ _ c.in-Err.stop (to_z-of_z unit) c.in-Err.ensures
