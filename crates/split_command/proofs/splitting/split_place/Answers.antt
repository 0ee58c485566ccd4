use Rattle.split_command.proofs.EndLemmas.{place_split}
use Rattle.split_command.proofs.splitting.split_place.Goals as goal

pub returns : goal.returns
returns g c =
    place_split c.args.from.now c.in_ok-bytes.bytes.items c.deref.result.now (g.H.Shelf.state c.args.shelf.now) (g.H.Shelf.state c.read_bytes.new.shelf)
    (g.H.Shelf.state c.split_bytes.new.shelf) c.split_bytes.result c.deref.ensures.value c.in_ok-bytes.ensures.ok c.split_bytes.ensures
