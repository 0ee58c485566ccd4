use Rattle.taken_items.proofs.NextLaws.{takes-none}
use Rattle.formatted_input.proofs.ActLaws.{record-goes, record-halts}
use Rattle.formatted_input.proofs.acts.act.Goals as goal

pub returns-in-Ok : goal.returns-in-Ok
returns-in-Ok g c control is =
    record-goes _ c.args.unit c.args.record.now c.act.new.self _ (c.in-Ok.ensures c.args.format.now control is (takes-none c.args.edit c.in_default.not-NextRecord))

pub returns-in-Err : goal.returns-in-Err
returns-in-Err g c control is =
    record-halts _ c.args.unit c.args.record.now c.act.new.self _ c.in-Err.halt c.stop_by.result
    (c.in-Err.ensures c.args.format.now control is (takes-none c.args.edit c.in_default.not-NextRecord)) c.stop_by.ensures
