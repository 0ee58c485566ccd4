use Rattle.std.proofs.Common.{rules, w32, to_z, of_z}
use Rattle.std.proofs.Math.Facts.{to_z-of_z}
use mir.Val.{SFits}
use Rattle.formatted_output.proofs.ActLaws.{next-goes, next-halts}
use Rattle.formatted_output.proofs.acts.next_record.Goals as goal

pub returns-in-Ok-next_record : goal.returns-in-Ok-next_record
returns-in-Ok-next_record g c =
    let unit : SFits w32 c.args.unit = search rules in
    next-goes (to_z w32 (of_z w32 c.args.unit)) c.args.unit c.record.result.now c.args.sheet.now c.next_record.new.self _ _ (to_z-of_z unit) c.record.ensures c.in-Ok.ensures
    c.in-Ok-next_record.ensures

pub returns-in-Err-next_record : goal.returns-in-Err-next_record
returns-in-Err-next_record g c =
    let unit : SFits w32 c.args.unit = search rules in
    next-halts (to_z w32 (of_z w32 c.args.unit)) c.args.unit c.record.result.now c.args.sheet.now c.next_record.new.self _ _ c.in-Err-next_record.halt c.stop_by.result (to_z-of_z unit)
    c.record.ensures c.in-Ok.ensures c.in-Err-next_record.ensures c.stop_by.ensures
