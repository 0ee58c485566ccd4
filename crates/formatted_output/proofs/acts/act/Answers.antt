use Rattle.edit_rules.specs.edit_meaning.EditedRecords.{unit_sheet}
use Rattle.formatted_output.proofs.ActLaws.{in-record, record-goes, record-halts}
use Rattle.formatted_output.proofs.acts.act.Goals as goal

pub returns-in-Ok : goal.returns-in-Ok
returns-in-Ok g c control is =
    record-goes _ c.args.unit c.args.sheet.now c.edit_record.new.sheet _ (c.in-Ok.ensures control is (in-record c.args.edit c.in_default.not-NextRecord) unit_sheet)

pub returns-in-Err : goal.returns-in-Err
returns-in-Err g c control is =
    record-halts _ c.args.unit c.args.sheet.now c.edit_record.new.sheet _ c.in-Err.halt c.stop_by.result
    (c.in-Err.ensures control is (in-record c.args.edit c.in_default.not-NextRecord) unit_sheet) c.stop_by.ensures
