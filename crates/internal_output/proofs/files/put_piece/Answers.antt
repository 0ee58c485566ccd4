use Rattle.internal_output.proofs.FileLaws.{text-puts, offset-known}
use Rattle.internal_output.proofs.files.put_piece.Goals as goal

pub returns-in-Some : goal.returns-in-Some
returns-in-Some c offset same =
    text-puts c.args.run.now c.put_text.new.self c.args.object offset c.in-Some.offset c.args.piece.now c.put_text.result (offset-known c.args.at c.in-Some.offset offset c.in-Some.is same)
    c.put_text.ensures
