use Rattle.internal_formatted.specs.Storing.{held}
use Rattle.internal_formatted.proofs.CloseLaws.{finishes-well, finishes-refused, finishes-stopped}
use Rattle.internal_formatted.proofs.endings.finish.Goals as goal

pub returns-in-Ok-write_record : goal.returns-in-Ok-write_record
returns-in-Ok-write_record c =
    finishes-well c.args.format.now c.args.walk.now c.args.sheet.now c.close.new.sheet c.record.result.now (held c.args.file.now c.args.run.now) (held c.close.new.file c.close.new.run)
    (held c.write_record.new.file c.write_record.new.run) c.record.ensures c.in-Ok.ensures c.in-Ok-write_record.ensures

pub returns-in-Err-write_record : goal.returns-in-Err-write_record
returns-in-Err-write_record c =
    finishes-refused c.args.format.now c.args.walk.now c.args.sheet.now c.close.new.sheet c.record.result.now (held c.args.file.now c.args.run.now) (held c.close.new.file c.close.new.run)
    (held c.write_record.new.file c.write_record.new.run) c.in-Err-write_record.refusal c.record.ensures c.in-Ok.ensures c.in-Err-write_record.ensures

pub returns-in-Err : goal.returns-in-Err
returns-in-Err c =
    finishes-stopped c.args.format.now c.args.walk.now c.args.sheet.now c.close.new.sheet (held c.args.file.now c.args.run.now) (held c.close.new.file c.close.new.run) c.in-Err.stop c.in-Err.ensures
