use Rattle.std.proofs.lemmas.List.{take-replicate}
use Rattle.internal_output.proofs.FileLaws.{puts-same, blanks}
use Rattle.internal_output.proofs.files.put_few_blanks.Goals as goal

pub returns : goal.returns
returns c offset is =
    puts-same c.args.run.now c.put_piece.new.run c.args.object offset _ (blanks c.args.count) c.put_piece.result (take-replicate c.args.count 80 32 c.requires) (c.put_piece.ensures offset is)
