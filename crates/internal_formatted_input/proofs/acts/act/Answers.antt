use Rattle.edit_rules.specs.edit_meaning.TakenRecords.{with_control}
use Rattle.internal_output.specs.Files.{file_of}
use Rattle.taken_items.proofs.NextLaws.{takes-none}
use Rattle.internal_formatted_input.proofs.ActLaws.{record-goes, record-halts}
use Rattle.internal_formatted_input.proofs.acts.act.Goals as goal

pub returns-in-Ok : goal.returns-in-Ok
returns-in-Ok c text control is =
    record-goes c.args.run.now (with_control control) c.args.record.now c.act.new.self (file_of c.args.file.now)
    (c.in-Ok.ensures text control is (takes-none c.args.edit c.in_default.not-NextRecord))

pub returns-in-Err : goal.returns-in-Err
returns-in-Err c text control is =
    record-halts c.args.run.now (with_control control) c.args.record.now c.act.new.self (file_of c.args.file.now) c.in-Err.halt c.stop_by.result
    (c.in-Err.ensures text control is (takes-none c.args.edit c.in_default.not-NextRecord)) c.stop_by.ensures
