use Rattle.piece_choice.proofs.AskableNames.{askable_pieces}
use Rattle.split_command.proofs.EndLemmas.{bytes_split}
use Rattle.split_command.proofs.splitting.split_bytes.Goals as goal

pub choose_names-requires : goal.choose_names-requires
choose_names-requires g c = askable_pieces c.args.bytes.now c.in_ok-pieces.pieces c.in_ok-pieces.ensures.cut

pub returns : goal.returns
returns g c =
    let cut = c.in_ok-pieces.ensures in
    let chosen = c.in_ok-names.ensures in
    bytes_split c.args.bytes.now c.in_ok-pieces.pieces c.in_ok-names.names.items (g.H.Shelf.state c.args.shelf.now) (g.H.Shelf.state c.choose_names.new.shelf)
    (g.H.Shelf.state c.write_all.new.shelf) c.write_all.result cut.within cut.cut cut.joined cut.ended chosen.counted chosen.chosen chosen.apart chosen.absent
    c.choose_names.ensures.asked chosen.quiet c.write_all.ensures.ok c.write_all.ensures.err
