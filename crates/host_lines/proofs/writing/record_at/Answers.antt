use Rattle.host_lines.specs.Lines.{record_text}
use Rattle.host_lines.proofs.LineLaws.{nothing-written, front-written}
use Rattle.host_lines.proofs.writing.record_at.Goals as goal

pub returns-clause-err : goal.returns-clause-err
returns-clause-err g c =
    front-written g.F.Seek.stream_position g.F.Seek.stream_bytes g.F.Write.contents c.args.offset c.put_record.result c.args.file.now
    c.move_to.new.file c.put_record.new.writer (record_text c.args.lacks_end c.args.bytes.now) c.in_ok-move_to.ensures.ok
    c.put_record.ensures.err

pub returns-in_err-move_to-clause-err : goal.returns-in_err-move_to-clause-err
returns-in_err-move_to-clause-err g c =
    nothing-written g.F.Seek.stream_position g.F.Seek.stream_bytes g.F.Write.contents c.args.offset c.from_residual.result c.args.file.now
    c.move_to.new.file (record_text c.args.lacks_end c.args.bytes.now) c.in_err-move_to.ensures.err
