use Rattle.fsplit.specs.split_pieces.Pieces.{texts_in}
use Rattle.split_command.proofs.SplitLemmas.{not_listed}
use Rattle.split_command.proofs.splitting.write_all.Goals as goal

pub returns-in-Err-write_place-clause-err : goal.returns-in-Err-write_place-clause-err
returns-in-Err-write_place-clause-err g c =
    not_listed c.args.names.items (texts_in c.args.pieces.now) c.args.text.now (g.H.Shelf.state c.args.shelf.now) (g.H.Shelf.state c.write_pieces.new.shelf)
    (g.H.Shelf.state c.write_place.new.shelf) c.requires.listed c.in-Ok.ensures.ok c.in-Err-write_place.ensures.err
