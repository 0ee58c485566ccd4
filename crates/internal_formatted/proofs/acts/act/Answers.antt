use Rattle.edit_rules.specs.edit_meaning.EditedRecords.{with_control}
use Rattle.formatted_output.proofs.ActLaws.{in-record}
use Rattle.internal_formatted.specs.Storing.{held}
use Rattle.internal_formatted.proofs.ActLaws.{record-goes, record-halts}
use Rattle.internal_formatted.proofs.acts.act.Goals as goal

pub returns-in-Ok : goal.returns-in-Ok
returns-in-Ok c control is =
    record-goes (λ page. with_control page control) c.args.sheet.now c.edit_record.new.sheet (held c.args.file.now c.args.run.now)
    (c.in-Ok.ensures control is (in-record c.args.edit c.in_default.not-NextRecord))

pub returns-in-Err : goal.returns-in-Err
returns-in-Err c control is =
    record-halts (λ page. with_control page control) c.args.sheet.now c.edit_record.new.sheet (held c.args.file.now c.args.run.now) c.in-Err.halt c.stop_by.result
    (c.in-Err.ensures control is (in-record c.args.edit c.in_default.not-NextRecord)) c.stop_by.ensures
