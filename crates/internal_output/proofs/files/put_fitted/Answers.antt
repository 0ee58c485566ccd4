use Rattle.std.proofs.Common.{length, ◌+◌, refl}
use Rattle.internal_output.proofs.FileLaws.{puts-fitted, puts-fitted-faulty}
use Rattle.internal_output.proofs.files.put_fitted.Goals as goal

pub returns-in-Ok : goal.returns-in-Ok
returns-in-Ok c offset is =
    puts-fitted c.args.run.now c.put_piece.new.run c.put_blanks.new.run c.args.object offset (offset + length c.args.record.now) c.args.size c.args.record.now c.put_blanks.result c.requires refl
    (c.in-Ok.ensures offset is) (c.put_blanks.ensures (offset + length c.args.record.now) (c.further.ensures offset is))

pub returns-in-Err : goal.returns-in-Err
returns-in-Err c offset is =
    puts-fitted-faulty c.args.run.now c.put_piece.new.run c.args.object offset c.args.size c.args.record.now c.in-Err.fault c.requires (c.in-Err.ensures offset is)
