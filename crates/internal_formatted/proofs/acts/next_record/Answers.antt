use Rattle.internal_formatted.specs.Storing.{held}
use Rattle.internal_formatted.proofs.ActLaws.{next-goes, next-halts, next-refused}
use Rattle.internal_formatted.proofs.acts.next_record.Goals as goal

pub returns-in-Ok-next_record : goal.returns-in-Ok-next_record
returns-in-Ok-next_record c =
    next-goes c.record.result.now c.args.sheet.now c.next_record.new.self (held c.args.file.now c.args.run.now) (held c.write_record.new.file c.write_record.new.run)
    c.record.ensures c.in-Ok.ensures c.in-Ok-next_record.ensures

pub returns-in-Err-next_record : goal.returns-in-Err-next_record
returns-in-Err-next_record c =
    next-halts c.record.result.now c.args.sheet.now c.next_record.new.self (held c.args.file.now c.args.run.now) (held c.write_record.new.file c.write_record.new.run) c.in-Err-next_record.halt
    c.stop_by.result c.record.ensures c.in-Ok.ensures c.in-Err-next_record.ensures c.stop_by.ensures

pub returns-in-Err : goal.returns-in-Err
returns-in-Err c =
    next-refused c.record.result.now c.args.sheet.now (held c.args.file.now c.args.run.now) (held c.write_record.new.file c.write_record.new.run) c.in-Err.refusal c.record.ensures c.in-Err.ensures
